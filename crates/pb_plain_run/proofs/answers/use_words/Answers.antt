use Rattle.std.proofs.Common.{ap, ◌∙◌}
use Rattle.pb_plain_run.specs.View.{left_of}
use Rattle.pb_plain_run.proofs.Tables.{left_is, words_set, words_unused, without_words}
use Rattle.pb_plain_run.proofs.answers.use_words.Goals as goal

pub returns-then-at-left : goal.returns-then-at-left
returns-then-at-left c =
    words_set c.args.left.now c.args.rank c.without_words.result c.if-at-left.true
    (c.without_words.ensures ∙ ap without_words (ap left_of c.index-left-at.is ∙ left_is c.args.left.now c.args.rank c.index-left-at.result c.if-at-left.true))

pub returns-else-at-left : goal.returns-else-at-left
returns-else-at-left c = words_unused c.args.left.now c.args.rank c.if-at-left.false
