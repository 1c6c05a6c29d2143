-- The tree of a file as plain lists, and the parts of it that are no types of the program.
use Rattle.std.specs.Prelude.{ℕ, List, [], ◌∷◌}
use Rattle.pb_text.specs.declared.place.Place.{Place}
use Rattle.pb_text.specs.declared.place.Spot.{Spot}
use Rattle.pb_syntax.specs.declared.tree.High.{High}
use Rattle.pb_syntax.specs.declared.tree.Payload.{Payload}
use Rattle.pb_syntax.specs.declared.tree.Op.{Op}
use Rattle.pb_syntax.specs.declared.tree.RangeText.{RangeText}
use Rattle.pb_syntax.specs.declared.tree.End.{End}
use Rattle.pb_syntax.specs.declared.tree.RoleText.{RoleText}

-- A block inside a statement is the place of its brace and its statements.
mutual
  pub data PlainStatement : Type 0 where
    message : (label : Spot) (payload : Payload) (from to : End) → PlainStatement
    foreach : (place : Place) (var : Spot) (range : RangeText) (at : Place) (items : PlainStatements) → PlainStatement
    loop : (place : Place) (name : Spot) (at : Place) (body : PlainStatements) → PlainStatement
    again : (place : Place) (name : Spot) → PlainStatement
    choice : (place : Place) (kernel : Spot) (who : End) (branches : PlainBranches) → PlainStatement
    compute : (place : Place) (kernel : Spot) (who : End) → PlainStatement
    barrier : (place : Place) → PlainStatement
    broadcast : (place : Place) (label : Spot) (payload : Payload) (from : End) → PlainStatement
    reduce : (place : Place) (label : Spot) (payload : Payload) (op : Op) (to : End) → PlainStatement
    allreduce : (place : Place) (label : Spot) (payload : Payload) (op : Op) → PlainStatement

  pub data PlainStatements : Type 0 where
    nothing : PlainStatements
    more : (first : PlainStatement) (rest : PlainStatements) → PlainStatements

  pub data PlainBranches : Type 0 where
    no_branch : PlainBranches
    branch : (at : Place) (first : PlainStatements) (rest : PlainBranches) → PlainBranches

pub record PlainBlock : Type 0 where
  pub place : Place
  pub list : PlainStatements

abbrev pub statements_of : List PlainStatement → PlainStatements
statements_of [] = nothing
statements_of (s ∷ ss) = more s (statements_of ss)

abbrev pub branches_of : List PlainBlock → PlainBranches
branches_of [] = no_branch
branches_of (b ∷ bs) = branch b.place b.list (branches_of bs)

pub record PlainFile : Type 0 where
  pub constant : Spot
  pub low : ℕ
  pub low_place : Place
  pub high : High
  pub high_place : Place
  pub protocol : Spot
  pub roles : List RoleText
  pub body : PlainBlock

-- a number where it stands
pub record Numeral : Type 0 where
  pub value : ℕ
  pub place : Place

-- the upper end of the constant where it stands
pub record Top : Type 0 where
  pub high : High
  pub place : Place
