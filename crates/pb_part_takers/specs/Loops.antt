-- The loops around a statement, the innermost first.
use Rattle.std.specs.Prelude.{◌≡◌, ℕ, ℤ, Bool, List, [], ◌∷◌}
use Rattle.std.specs.List.{All}
use Rattle.pb_affine.specs.declared.lin.Lin.{Lin}
use Rattle.pb_affine.specs.declared.range.NRange.{NRange}
use Rattle.pb_part_areas.specs.declared.area.Area.{Area}
use Rattle.pb_part_areas.specs.Areas.{have}
use Rattle.pb_part_areas.specs.Fits.{Fits}
use Rattle.pb_part_takers.specs.declared.held.Held.{Held}

-- their ids
abbrev pub ids_of : List Held → List ℕ
ids_of [] = []
ids_of (h ∷ hs) = h.id ∷ ids_of hs

-- whether a rank takes part in the body of each
abbrev pub held_of : List Held → ℤ → ℕ → ℤ → List Bool
held_of [] n role x = []
held_of (h ∷ hs) n role x = have h.areas.value.items n role x ∷ held_of hs n role x

-- all their areas fit
abbrev pub HeldFit : NRange → List Lin → List Held → Type 0
HeldFit range cuts [] = Unit {0}
HeldFit range cuts (h ∷ hs) = All (Fits range cuts) h.areas.value.items × HeldFit range cuts hs

-- the loops with one more inside
pub record IsInside (around : List Held) (id : ℕ) (areas : List Area) (inner : List Held) : Type 0 where
  pub ids : ids_of inner ≡ id ∷ ids_of around
  pub held : (n : ℤ) (role : ℕ) (x : ℤ) → held_of inner n role x ≡ have areas n role x ∷ held_of around n role x
  pub fits : (range : NRange) (cuts : List Lin) → All (Fits range cuts) areas → HeldFit range cuts around → HeldFit range cuts inner
