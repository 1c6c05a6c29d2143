use Rattle.std.proofs.Common.{ap, ◌∙◌}
use Rattle.pb_plain_run.specs.View.{left_of}
use Rattle.pb_plain_run.proofs.Tables.{left_is, branch_set, branch_unused, without_branch}
use Rattle.pb_plain_run.proofs.answers.use_branch.Goals as goal

pub returns-then-at-left : goal.returns-then-at-left
returns-then-at-left c =
    branch_set c.args.left.now c.args.rank c.without_branch.result c.if-at-left.true
    (c.without_branch.ensures ∙ ap without_branch (ap left_of c.index-left-at.is ∙ left_is c.args.left.now c.args.rank c.index-left-at.result c.if-at-left.true))

pub returns-else-at-left : goal.returns-else-at-left
returns-else-at-left c = branch_unused c.args.left.now c.args.rank c.if-at-left.false
