use Rattle.std.proofs.Common.{◌∙◌}
use Rattle.pb_plain_run.proofs.Added.{message_adds}
use Rattle.pb_plain_run.proofs.steps.message.Goals as goal

pub returns : goal.returns
returns c =
    message_adds c.args.from c.args.to c.args.label c.in_ok-words.words c.in_ok-again.again _ _ _ _ _ _
    c.in_ok-words.ensures (c.in_ok-again.ensures ∙ c.list.ensures) c.in_ok-add.ensures c.in_ok-add-2.ensures c.use_words.ensures
