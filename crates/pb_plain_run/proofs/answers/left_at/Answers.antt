use Rattle.std.proofs.Common.{sym, ap, ◌∙◌}
use Rattle.pb_plain_run.specs.View.{left_of}
use Rattle.pb_plain_run.proofs.Tables.{left_is, left_past}
use Rattle.pb_plain_run.proofs.answers.left_at.Goals as goal

pub returns-then-at-left : goal.returns-then-at-left
returns-then-at-left c = ap left_of c.index-left-at.is ∙ left_is c.args.left.now c.args.rank c.index-left-at.result c.if-at-left.true

pub returns-else-at-left : goal.returns-else-at-left
returns-else-at-left c = sym (left_past c.args.left.now c.args.rank c.if-at-left.false)
