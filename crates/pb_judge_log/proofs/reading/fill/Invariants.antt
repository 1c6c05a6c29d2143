use Rattle.std.proofs.Common.{length}
use Rattle.pb_judge_log.specs.Kept.{rows_in}
use Rattle.pb_judge_log.specs.Outcomes.{Reads}
use Rattle.pb_judge_log.proofs.reading.fill.Given as goal

abbrev pub invariant-lines : goal.invariant-lines
invariant-lines l = Reads (rows_in l.tables) l.tables.total l.text l.log l.number l.rest

abbrev pub decreases-lines : goal.decreases-lines
decreases-lines l = length l.rest
