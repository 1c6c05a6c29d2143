use Rattle.pb_core_language.specs.Plain.{plain_stmt, plain_block}
use Rattle.pb_core_language.specs.Cuts.{stmt_cuts, block_cuts}
use Rattle.pb_rules.proofs.CutSteps.{of_statements, of_branches, statements_more, branches_more, step, choice_added, foreach_added}
use Rattle.pb_rules.proofs.cuts.+cut_walk.Goals as goal

pub add_block-loop-statement-preserved : goal.add_block-loop-statement-preserved
add_block-loop-statement-preserved t c =
    let over = c.args.over in
    step (of_statements over) (λ x. stmt_cuts over (plain_stmt x).stmt) (statements_more over) c.deref-statement-items.result.now c.loop-statement.statement-index c.statement-item.result _ _ _
    c.loop-statement-test.true c.statement-item.is c.in_ok-add_stmt.ensures c.loop-statement.invariant

pub add_branches-loop-branch-preserved : goal.add_branches-loop-branch-preserved
add_branches-loop-branch-preserved t c =
    let over = c.args.over in
    step (of_branches over) (λ x. block_cuts over (plain_block x).block) (branches_more over) c.args.branches.now c.loop-branch.branch-index c.branch-item.result _ _ _
    c.loop-branch-test.true c.branch-item.is c.in_ok-add_block.ensures c.loop-branch.invariant

pub add_stmt-returns-in_ok-add_edges-in-Foreach : goal.add_stmt-returns-in_ok-add_edges-in-Foreach
add_stmt-returns-in_ok-add_edges-in-Foreach t c =
    foreach_added c.args.over c.args.statement.now c.in-Foreach.low c.in-Foreach.high c.in-Foreach.items c.add_block.result _ _ _ c.in-Foreach.is c.in_ok-add_edges-in-Foreach.ensures c.add_block.ensures

pub add_stmt-returns-in_ok-add_end-in-Choice : goal.add_stmt-returns-in_ok-add_end-in-Choice
add_stmt-returns-in_ok-add_end-in-Choice t c =
    choice_added c.args.over c.args.statement.now c.in-Choice.kernel c.in-Choice.at c.in-Choice.branches c.deref.result.now c.add_branches.result _ _ _ c.deref.ensures.value c.in-Choice.is c.in_ok-add_end-in-Choice.ensures c.add_branches.ensures
