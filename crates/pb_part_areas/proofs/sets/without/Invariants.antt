use Rattle.std.proofs.Common.{◌≡◌, ℕ, ℤ, List, ◌&&◌, not, drop}
use Rattle.std.specs.List.{All}
use Rattle.pb_affine.specs.declared.lin.Lin.{Lin}
use Rattle.pb_affine.specs.declared.range.NRange.{NRange}
use Rattle.pb_part_areas.specs.Areas.{have, AreSomewhere}
use Rattle.pb_part_areas.specs.Fits.{Fits}
use Rattle.pb_part_areas.proofs.sets.without.Given as goal

abbrev pub invariant-loop-b : goal.invariant-loop-b
invariant-loop-b l = record {
  is : (n : ℤ) (role : ℕ) (x : ℤ) → have l.left.items n role x && not (have (drop l.b-index l.others) n role x) ≡ have l.fn.list.items n role x && not (have l.others n role x);
  fits : (range : NRange) (cuts : List Lin) → All (Fits range cuts) l.fn.list.items → All (Fits range cuts) l.others → All (Fits range cuts) l.left.items;
  some : AreSomewhere l.fn.list.items → AreSomewhere l.left.items;
}
