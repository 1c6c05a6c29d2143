use Rattle.std.proofs.Common.{◌≡◌, ℕ, ◌<◌, false}
use Rattle.pb_diff.specs.Systems.{is_on, at}
use Rattle.pb_diff.proofs.constraint.place.Given as goal

abbrev pub invariant-loop-i : goal.invariant-loop-i
invariant-loop-i l = (j : ℕ) → j < l.i → is_on l.a l.b (at l.constraints j) ≡ false
