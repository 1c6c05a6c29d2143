use Rattle.std.proofs.Common.{◌≡◌, ℕ, ℤ, pos, ◌||◌, drop}
use Rattle.std.specs.List.{All}
use Rattle.pb_affine.specs.Values.{hold, IsSmallGuard}
use Rattle.pb_cases.specs.Breakpoints.{Division, IsInRange}
use Rattle.pb_cases.specs.Bounds.{IsAligned}
use Rattle.pb_part_areas.specs.Areas.{have}
use Rattle.pb_part_areas.specs.Fits.{Fits}
use Rattle.pb_part_areas.proofs.guard.guards_of.Given as goal

abbrev pub invariant-loop-a : goal.invariant-loop-a
invariant-loop-a l = record {
  is : (n : ℤ) (role : ℕ) (x : ℤ) → IsInRange l.range n → hold l.guards n (pos 0) role x || have (drop l.a-index l.list) n role x ≡ have l.list n role x;
  aligned : (d : Division) → All (Fits d.range d.cuts) l.list → All (IsAligned d) l.guards;
  small : All IsSmallGuard l.guards;
}
