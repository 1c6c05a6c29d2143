use Rattle.std.proofs.Common.{◌∙◌, sym}
use Rattle.pb_rules.proofs.Steps.{statement_step, branch_step}
use Rattle.pb_rules.proofs.walk.+walk.Goals as goal

pub block_kept-loop-statement-preserved : goal.block_kept-loop-statement-preserved
block_kept-loop-statement-preserved t c =
    statement_step _ _ _ _ _ _ _ _ _ c.loop-statement-test.true c.statement-item.is (sym c.if-is_again.false ∙ c.is_again.ensures) c.stmt_kept-best.ensures c.loop-statement.invariant

pub branches_kept-loop-branch-preserved : goal.branches_kept-loop-branch-preserved
branches_kept-loop-branch-preserved t c =
    branch_step _ _ _ _ _ _ _ _ _ c.loop-branch-test.true c.branch-item.is c.block_kept-best.ensures c.loop-branch.invariant
