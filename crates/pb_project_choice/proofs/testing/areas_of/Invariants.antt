use Rattle.std.proofs.Common.{◌≡◌, ℕ, ℤ, ◌||◌, List, drop}
use Rattle.std.specs.List.{All}
use Rattle.pb_affine.specs.declared.lin.Lin.{Lin}
use Rattle.pb_affine.specs.declared.range.NRange.{NRange}
use Rattle.pb_part_areas.specs.Areas.{have}
use Rattle.pb_part_areas.specs.Fits.{Fits}
use Rattle.pb_part_firsts.specs.Fitting.{EntriesFit}
use Rattle.pb_project_choice.specs.Found.{tells}
use Rattle.pb_project_choice.proofs.testing.areas_of.Given as goal

abbrev pub invariant-loop-entry : goal.invariant-loop-entry
invariant-loop-entry l = record {
  is : (n : ℤ) (role : ℕ) (x : ℤ) → have l.areas.items n role x || tells l.label (drop l.entry-index l.entries) n role x ≡ tells l.label l.entries n role x;
  fits : (range : NRange) (cuts : List Lin) → EntriesFit range cuts l.entries → All (Fits range cuts) l.areas.items;
}
