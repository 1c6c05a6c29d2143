use Rattle.std.proofs.Common.{◌≡◌, ℕ, ℤ, ◌||◌, List, drop}
use Rattle.std.specs.List.{All}
use Rattle.pb_affine.specs.declared.lin.Lin.{Lin}
use Rattle.pb_affine.specs.declared.range.NRange.{NRange}
use Rattle.pb_part_areas.specs.Areas.{have, AreSomewhere}
use Rattle.pb_part_areas.specs.Fits.{Fits}
use Rattle.pb_part_areas.proofs.tidy.attach_all.Given as goal

abbrev pub invariant-loop-a : goal.invariant-loop-a
invariant-loop-a l = record {
  is : (n : ℤ) (role : ℕ) (x : ℤ) → have l.out.items n role x || have (drop l.a-index l.more) n role x ≡ have l.initial.out.items n role x || have l.more n role x;
  fits : (range : NRange) (cuts : List Lin) → All (Fits range cuts) l.initial.out.items → All (Fits range cuts) l.more → All (Fits range cuts) l.out.items;
  some : AreSomewhere l.initial.out.items → AreSomewhere l.out.items;
}
