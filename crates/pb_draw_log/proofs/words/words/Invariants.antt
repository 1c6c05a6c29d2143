use Rattle.std.proofs.Common.{◌+◌, ◌≤◌, length}
use Rattle.pb_draw_log.proofs.Worded.{Counts}
use Rattle.pb_draw_log.proofs.words.words.Given as goal

abbrev pub invariant-loop-next : goal.invariant-loop-next
invariant-loop-next l = record {
  counts : Counts l.text l.rest l.count;
  room : l.count + length l.rest ≤ length l.text;
}

abbrev pub decreases-loop-next : goal.decreases-loop-next
decreases-loop-next l = length l.rest
