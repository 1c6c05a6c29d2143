-- Areas that stand in parts.
use Rattle.std.specs.Prelude.{◌≡◌, ℕ, ℤ, true, List, [], ◌∷◌, ◌++◌}
use Rattle.std.specs.List.{All}
use Rattle.pb_part_areas.specs.declared.area.Area.{Area}
use Rattle.pb_part_areas.specs.Areas.{has, have}
use Rattle.pb_part_firsts.specs.declared.parts.Part.{Part}

-- the areas of all parts
abbrev pub flat : List Part → List Area
flat [] = []
flat (p ∷ rest) = p.areas.items ++ flat rest

-- the area around a part holds of all that its areas hold of
pub record IsAround (p : Part) : Type 0 where
  pub around : (n : ℤ) (role : ℕ) (x : ℤ) → have p.areas.items n role x ≡ true → has p.around n role x ≡ true

abbrev pub AreAround : List Part → Type 0
AreAround parts = All IsAround parts
