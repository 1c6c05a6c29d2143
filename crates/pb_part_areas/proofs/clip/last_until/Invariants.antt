use Rattle.std.proofs.Common.{◌≡◌, ℕ, ℤ, ◌||◌, true, List, drop}
use Rattle.std.specs.List.{All}
use Rattle.pb_affine.specs.declared.lin.Lin.{Lin}
use Rattle.pb_affine.specs.declared.range.NRange.{NRange}
use Rattle.pb_part_areas.specs.Areas.{have, is_before}
use Rattle.pb_part_areas.specs.Fits.{Fits, IsEdgeOfIf}
use Rattle.pb_part_areas.proofs.clip.last_until.Given as goal

abbrev pub invariant-loop-a : goal.invariant-loop-a
invariant-loop-a l = record {
  is : (n : ℤ) (role : ℕ) (x : ℤ) → have l.list n role x ≡ true → is_before n l.end || have (drop l.a-index l.list) n role x ≡ true;
  edge : (range : NRange) (cuts : List Lin) → IsEdgeOfIf range cuts l.fn.until → All (Fits range cuts) l.list → IsEdgeOfIf range cuts l.end;
}
