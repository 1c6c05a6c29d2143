use Rattle.std.proofs.Common.{◌≡◌, ℕ, ℤ, ◌||◌, List, drop}
use Rattle.std.specs.List.{All}
use Rattle.pb_affine.specs.declared.lin.Lin.{Lin}
use Rattle.pb_affine.specs.declared.range.NRange.{NRange}
use Rattle.pb_part_areas.specs.Areas.{have}
use Rattle.pb_part_areas.specs.Fits.{Fits}
use Rattle.pb_part_areas.proofs.tidy.merged.Given as goal

abbrev pub invariant-loop-a : goal.invariant-loop-a
invariant-loop-a l = record {
  is : (n : ℤ) (role : ℕ) (x : ℤ) → have l.all.items n role x || have (drop l.a-index l.more) n role x ≡ have l.initial.all.items n role x || have l.more n role x;
  fits : (range : NRange) (cuts : List Lin) → All (Fits range cuts) l.initial.all.items → All (Fits range cuts) l.more → All (Fits range cuts) l.all.items;
}
