-- Entries and areas that fit the cuts of a file.
use Rattle.std.specs.Prelude.{List, [], ◌∷◌}
use Rattle.std.specs.List.{All}
use Rattle.pb_affine.specs.declared.lin.Lin.{Lin}
use Rattle.pb_affine.specs.declared.range.NRange.{NRange}
use Rattle.pb_part_areas.specs.declared.area.Area.{Area}
use Rattle.pb_part_areas.specs.Fits.{Fits}
use Rattle.pb_part_firsts.specs.declared.firsts.Entry.{Entry}

abbrev pub EntriesFit : NRange → List Lin → List Entry → Type 0
EntriesFit range cuts [] = Unit {0}
EntriesFit range cuts (f ∷ fs) = Fits range cuts f.area × EntriesFit range cuts fs

-- the areas that are left fit, and all entries
pub record AllFit (range : NRange) (cuts : List Lin) (left : List Area) (new : List Entry) : Type 0 where
  pub areas : All (Fits range cuts) left
  pub entries : EntriesFit range cuts new
