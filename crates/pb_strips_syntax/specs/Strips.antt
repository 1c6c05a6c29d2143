-- The tree of a file with strips as plain lists.
use Rattle.std.specs.Prelude.{ℕ, List, [], ◌∷◌}
use Rattle.pb_text.specs.declared.place.Place.{Place}
use Rattle.pb_text.specs.declared.place.Spot.{Spot}
use Rattle.pb_syntax.specs.declared.tree.High.{High}
use Rattle.pb_syntax.specs.declared.tree.Payload.{Payload}
use Rattle.pb_syntax.specs.declared.tree.Op.{Op}
use Rattle.pb_syntax.specs.declared.tree.RangeText.{RangeText}
use Rattle.pb_strips_syntax.specs.declared.tree.StripEnd.{StripEnd}
use Rattle.pb_strips_syntax.specs.declared.tree.StripRole.{StripRole}

-- A block inside a statement is the place of its brace and its statements.
mutual
  pub data Strip : Type 0 where
    message : (label : Spot) (payload : Payload) (from to : StripEnd) → Strip
    foreach : (place : Place) (var : Spot) (range : RangeText) (at : Place) (items : Strips) → Strip
    loop : (place : Place) (name : Spot) (at : Place) (body : Strips) → Strip
    again : (place : Place) (name : Spot) → Strip
    choice : (place : Place) (kernel : Spot) (who : StripEnd) (branches : StripBranches) → Strip
    compute : (place : Place) (kernel : Spot) (who : StripEnd) → Strip
    barrier : (place : Place) → Strip
    broadcast : (place : Place) (label : Spot) (payload : Payload) (from : StripEnd) → Strip
    reduce : (place : Place) (label : Spot) (payload : Payload) (op : Op) (to : StripEnd) → Strip
    allreduce : (place : Place) (label : Spot) (payload : Payload) (op : Op) → Strip
    columns : (place : Place) (var : Spot) (low high : ℕ) (at : Place) (body : Strips) → Strip

  pub data Strips : Type 0 where
    nothing : Strips
    more : (first : Strip) (rest : Strips) → Strips

  pub data StripBranches : Type 0 where
    no_branch : StripBranches
    branch : (at : Place) (first : Strips) (rest : StripBranches) → StripBranches

pub record PlainStripBlock : Type 0 where
  pub place : Place
  pub list : Strips

abbrev pub strips_of : List Strip → Strips
strips_of [] = nothing
strips_of (s ∷ ss) = more s (strips_of ss)

abbrev pub branches_of : List PlainStripBlock → StripBranches
branches_of [] = no_branch
branches_of (b ∷ bs) = branch b.place b.list (branches_of bs)

pub record PlainStripFile : Type 0 where
  pub constant : Spot
  pub low : ℕ
  pub low_place : Place
  pub high : High
  pub high_place : Place
  pub protocol : Spot
  pub roles : List StripRole
  pub body : PlainStripBlock
