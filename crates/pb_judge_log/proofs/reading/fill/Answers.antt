use Rattle.std.proofs.Common.{sym, ◌∙◌}
use Rattle.pb_judge_log.specs.Kept.{rows_in}
use Rattle.pb_judge_log.proofs.Finished.{goes_on}
use Rattle.pb_judge_log.proofs.reading.fill.Goals as goal

pub lines-preserved : goal.lines-preserved
lines-preserved c =
    goes_on (rows_in c.args.tables.now) c.args.tables.now.total c.args.text.now c.in-Some.line.now c.lines.rest.now c.in-Some.after.now c.lines.log c.push.new.self c.lines.number c.saturating_add-number.result c.in-Some-2.action
    c.lines.invariant c.in-Some.ensures.line (sym c.in_ok-entry.ensures ∙ c.in-Some-2.is) c.in_ok-push-in-Some-2.ensures c.saturating_add-number.ensures
