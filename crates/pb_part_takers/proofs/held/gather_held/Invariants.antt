use Rattle.std.proofs.Common.{◌≡◌, ℕ, ℤ, ◌||◌, List, drop}
use Rattle.std.specs.List.{All}
use Rattle.pb_affine.specs.declared.lin.Lin.{Lin}
use Rattle.pb_affine.specs.declared.range.NRange.{NRange}
use Rattle.pb_part_areas.specs.Areas.{have}
use Rattle.pb_part_areas.specs.Fits.{Fits}
use Rattle.pb_part_takers.proofs.held.gather_held.Given as goal

abbrev pub invariant-loop-a : goal.invariant-loop-a
invariant-loop-a l = record {
  is : (n : ℤ) (role : ℕ) (x : ℤ) → have l.out.items n role x || have (drop l.a-index l.areas) n role x ≡ have l.initial.out.items n role x || have l.areas n role x;
  fits : (range : NRange) (cuts : List Lin) → All (Fits range cuts) l.initial.out.items → All (Fits range cuts) l.areas → All (Fits range cuts) l.out.items;
}
