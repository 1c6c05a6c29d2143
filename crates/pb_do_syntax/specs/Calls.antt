-- The tree of a file with subprotocols as plain lists.
use Rattle.std.specs.Prelude.{ℕ, List, [], ◌∷◌}
use Rattle.pb_text.specs.declared.place.Place.{Place}
use Rattle.pb_text.specs.declared.place.Spot.{Spot}
use Rattle.pb_syntax.specs.declared.tree.High.{High}
use Rattle.pb_syntax.specs.declared.tree.RangeText.{RangeText}
use Rattle.pb_syntax.specs.declared.tree.End.{End}
use Rattle.pb_syntax.specs.declared.tree.RoleText.{RoleText}
use Rattle.pb_syntax.specs.Tree.{PlainStatement}

-- A statement without braces is one of a protocol. A block inside a statement is the place of its brace and its statements.
mutual
  pub data Call : Type 0 where
    plain : (statement : PlainStatement) → Call
    foreach : (place : Place) (var : Spot) (range : RangeText) (at : Place) (items : Calls) → Call
    loop : (place : Place) (name : Spot) (at : Place) (body : Calls) → Call
    choice : (place : Place) (kernel : Spot) (who : End) (branches : CallBranches) → Call
    call : (place : Place) (sub : Spot) (args : List Spot) → Call

  pub data Calls : Type 0 where
    nothing : Calls
    more : (first : Call) (rest : Calls) → Calls

  pub data CallBranches : Type 0 where
    no_branch : CallBranches
    branch : (at : Place) (first : Calls) (rest : CallBranches) → CallBranches

pub record PlainCallBlock : Type 0 where
  pub place : Place
  pub list : Calls

abbrev pub calls_of : List Call → Calls
calls_of [] = nothing
calls_of (s ∷ ss) = more s (calls_of ss)

abbrev pub branches_of : List PlainCallBlock → CallBranches
branches_of [] = no_branch
branches_of (b ∷ bs) = branch b.place b.list (branches_of bs)

pub record PlainSub : Type 0 where
  pub name : Spot
  pub params : List Spot
  pub body : PlainCallBlock

pub record PlainCallFile : Type 0 where
  pub subs : List PlainSub
  pub constant : Spot
  pub low : ℕ
  pub low_place : Place
  pub high : High
  pub high_place : Place
  pub protocol : Spot
  pub roles : List RoleText
  pub body : PlainCallBlock
