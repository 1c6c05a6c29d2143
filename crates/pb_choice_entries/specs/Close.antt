-- An area around the areas of entries.
use Rattle.std.specs.Prelude.{◌≡◌, ℕ, ℤ, true, List}
use Rattle.std.specs.List.{All}
use Rattle.pb_part_areas.specs.declared.area.Area.{Area}
use Rattle.pb_part_areas.specs.Areas.{has}
use Rattle.pb_part_firsts.specs.declared.firsts.Entry.{Entry}

-- the area holds of all that the entry's area holds of
pub record IsAroundOne (a : Area) (e : Entry) : Type 0 where
  pub around : (n : ℤ) (role : ℕ) (x : ℤ) → has e.area n role x ≡ true → has a n role x ≡ true

-- the area holds of all that the areas of these entries hold of
abbrev pub IsAround : Area → List Entry → Type 0
IsAround a es = All (IsAroundOne a) es
