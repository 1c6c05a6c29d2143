use Rattle.std.proofs.Common.{sym}
use Rattle.pb_judge_log.specs.Kept.{rows_in}
use Rattle.pb_judge_log.specs.Reading.{fields_behind}
use Rattle.pb_judge_log.proofs.Steps.{choose_is}
use Rattle.pb_judge_log.proofs.actions.choose.Goals as goal

pub returns : goal.returns
returns c =
    choose_is (rows_in c.args.tables.now) c.args.tables.now.total (fields_behind c.args.rest.now) (fields_behind c.in_ok-name.rest.now) (fields_behind c.in_ok-field.rest.now) c.in_ok-name.name.now c.in_ok-field.field.now
    c.in_ok-kernel.kernel c.in_ok-answer.answer c.in_ok-name.ensures.fields (sym c.in_ok-kernel.ensures) c.in_ok-field.ensures.fields (sym c.in_ok-answer.ensures)
