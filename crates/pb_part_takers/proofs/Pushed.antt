-- Areas that are added to a list as they are.
use Rattle.std.proofs.Common.{◌≡◌, List, [], ◌∷◌, ◌++◌, sym, subst}
use Rattle.std.specs.List.{All}
use Rattle.std.proofs.lemmas.List.Elements.{All-push}
use Rattle.pb_affine.specs.declared.lin.Lin.{Lin}
use Rattle.pb_affine.specs.declared.range.NRange.{NRange}
use Rattle.pb_part_areas.specs.declared.area.Area.{Area}
use Rattle.pb_part_areas.specs.Fits.{Fits}

pub fits_pushed : (old new : List Area) (a : Area) → new ≡ old ++ a ∷ [] → (range : NRange) (cuts : List Lin) → All (Fits range cuts) old → Fits range cuts a → All (Fits range cuts) new
fits_pushed old new a e range cuts f g = subst (All (Fits range cuts)) (sym e) (All-push (Fits range cuts) old a f g)
