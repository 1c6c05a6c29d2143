use Rattle.std.proofs.Common.{length}
use Rattle.pb_draw_log.specs.Taking.{HasRead}
use Rattle.pb_draw_log.proofs.log.take_lines.Given as goal

abbrev pub invariant-loop-line : goal.invariant-loop-line
invariant-loop-line l = HasRead l.bytes l.table l.log l.rest

abbrev pub decreases-loop-line : goal.decreases-loop-line
decreases-loop-line l = length l.rest
