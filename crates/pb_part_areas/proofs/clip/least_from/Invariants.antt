use Rattle.std.proofs.Common.{◌≡◌, ℕ, ℤ, pos, ◌||◌, int_le, true, List, drop}
use Rattle.std.specs.List.{All}
use Rattle.pb_affine.specs.declared.lin.Lin.{Lin}
use Rattle.pb_affine.specs.declared.range.NRange.{NRange}
use Rattle.pb_part_areas.specs.Areas.{have}
use Rattle.pb_part_areas.specs.Fits.{Fits, IsEdgeOf}
use Rattle.pb_part_areas.proofs.clip.least_from.Given as goal

abbrev pub invariant-loop-a : goal.invariant-loop-a
invariant-loop-a l = record {
  is : (n : ℤ) (role : ℕ) (x : ℤ) → have l.list n role x ≡ true → int_le (pos l.low) n || have (drop l.a-index l.list) n role x ≡ true;
  edge : (range : NRange) (cuts : List Lin) → IsEdgeOf range cuts (pos l.fn.from) → All (Fits range cuts) l.list → IsEdgeOf range cuts (pos l.low);
}
