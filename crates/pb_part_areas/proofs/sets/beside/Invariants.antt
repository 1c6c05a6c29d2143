use Rattle.std.proofs.Common.{◌≡◌, ℕ, ℤ, ◌||◌, List, drop}
use Rattle.std.specs.List.{All}
use Rattle.pb_affine.specs.declared.lin.Lin.{Lin}
use Rattle.pb_affine.specs.declared.range.NRange.{NRange}
use Rattle.pb_part_areas.specs.Areas.{has, have, AreSomewhere}
use Rattle.pb_part_areas.specs.Fits.{Fits}
use Rattle.pb_part_areas.proofs.sets.beside.Given as goal

abbrev pub invariant-loop-b : goal.invariant-loop-b
invariant-loop-b l = record {
  is : (n : ℤ) (role : ℕ) (x : ℤ) → (have l.out.items n role x || have (drop l.b-index l.list) n role x) || has l.a n role x ≡ have l.list n role x || has l.a n role x;
  fits : (range : NRange) (cuts : List Lin) → All (Fits range cuts) l.list → All (Fits range cuts) l.out.items;
  some : AreSomewhere l.list → AreSomewhere l.out.items;
}
