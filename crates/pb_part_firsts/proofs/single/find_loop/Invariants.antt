use Rattle.std.proofs.Common.{◌≡◌, ℕ, ℤ, List, drop}
use Rattle.pb_affine.specs.declared.lin.Lin.{Lin}
use Rattle.pb_affine.specs.declared.range.NRange.{NRange}
use Rattle.pb_part_takers.specs.Loops.{HeldFit}
use Rattle.pb_part_firsts.specs.Stopping.{is_held}
use Rattle.pb_part_firsts.proofs.single.find_loop.Given as goal

abbrev pub invariant-loop-inner : goal.invariant-loop-inner
invariant-loop-inner l = record {
  is : (n : ℤ) (role : ℕ) (x : ℤ) → is_held l.id (drop l.inner-index l.held) n role x ≡ is_held l.id l.held n role x;
  fits : (range : NRange) (cuts : List Lin) → HeldFit range cuts l.held → HeldFit range cuts (drop l.inner-index l.held);
}
