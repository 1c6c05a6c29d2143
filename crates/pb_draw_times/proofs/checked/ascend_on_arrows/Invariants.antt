use Rattle.std.proofs.Common.{ℕ, ◌<◌}
use Rattle.pb_draw_times.specs.Ascents.{Rises}
use Rattle.pb_draw_times.proofs.checked.ascend_on_arrows.Given as goal

abbrev pub invariant-loop-place : goal.invariant-loop-place
invariant-loop-place l = (k : ℕ) → k < l.place → Rises l.entries l.mates l.times k
