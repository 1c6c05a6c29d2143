use Rattle.std.proofs.Common.{◌≡◌, ℕ, ℤ, ◌||◌, List}
use Rattle.std.specs.List.{All}
use Rattle.pb_affine.specs.declared.lin.Lin.{Lin}
use Rattle.pb_affine.specs.declared.range.NRange.{NRange}
use Rattle.pb_part_areas.specs.Areas.{has, have, AreSomewhere}
use Rattle.pb_part_areas.specs.Fits.{Fits}
use Rattle.pb_part_areas.proofs.sets.missing.Given as goal

abbrev pub invariant-loop-b : goal.invariant-loop-b
invariant-loop-b l = record {
  is : (n : ℤ) (role : ℕ) (x : ℤ) → have l.left.items n role x || have l.list n role x ≡ has l.a n role x || have l.list n role x;
  fits : (range : NRange) (cuts : List Lin) → Fits range cuts l.a → All (Fits range cuts) l.list → All (Fits range cuts) l.left.items;
  some : AreSomewhere l.left.items;
}
