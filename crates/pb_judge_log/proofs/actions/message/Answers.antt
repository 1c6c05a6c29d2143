use Rattle.std.proofs.Common.{sym}
use Rattle.pb_judge_log.specs.Kept.{rows_in}
use Rattle.pb_judge_log.specs.Reading.{fields_behind}
use Rattle.pb_judge_log.proofs.Steps.{message_is}
use Rattle.pb_judge_log.proofs.actions.message.Goals as goal

pub returns : goal.returns
returns c =
    message_is (rows_in c.args.tables.now) c.args.tables.now.total (fields_behind c.args.rest.now) (fields_behind c.in_ok-field.rest.now) (fields_behind c.in_ok-name.rest.now) c.in_ok-field.field.now c.in_ok-name.name.now
    c.in_ok-peer.peer c.in_ok-label.label c.in_ok-field.ensures.fields (sym c.in_ok-peer.ensures) c.in_ok-name.ensures.fields (sym c.in_ok-label.ensures)
