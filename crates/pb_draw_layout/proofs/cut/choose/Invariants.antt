use Rattle.std.proofs.Common.{◌≤◌, vec_len}
use Rattle.pb_draw_layout.proofs.cut.choose.Given as goal

abbrev pub invariant-loop-place : goal.invariant-loop-place
invariant-loop-place l = vec_len l.chosen.places ≤ l.cut.most
