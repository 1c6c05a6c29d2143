use Rattle.std.proofs.Common.{ap, sym, ◌∙◌, subst, map}
use Rattle.std.proofs.lemmas.Result.{IfOk-weaker}
use Rattle.pb_core_language.specs.Plain.{plain_block, plain_stmt, branches_of}
use Rattle.pb_part_takers.specs.Loops.{ids_of, held_of}
use Rattle.pb_choice.specs.Walks.{FirstLone}
use Rattle.pb_core_language.proofs.Plains.{plain_mark, plain_loop, plain_choice}
use Rattle.pb_choice.proofs.Blocks.{block_step, block_stops, block_done}
use Rattle.pb_choice.proofs.Bodies.{loop_first}
use Rattle.pb_choice.proofs.Branching.{choice_first, choice_at}
use Rattle.pb_choice.proofs.Passed.{inside_start, inside_step, inside_done}
use Rattle.pb_choice.proofs.walk.+walk.Goals as goal

pub block_kept-returns-then-is_again : goal.block_kept-returns-then-is_again
block_kept-returns-then-is_again t c =
    block_stops c.args.setting.now.range c.args.setting.now.whole.now c.args.held.now c.args.block.now c.deref-statement-items.result.now c.loop-statement.statement-index c.statement-item.result
    c.args.best c.loop-statement.best c.deref-statement-items.ensures.value c.loop-statement-test.true c.statement-item.is (sym c.is_again.ensures ∙ c.if-is_again.true) c.loop-statement.invariant

pub block_kept-loop-statement-preserved : goal.block_kept-loop-statement-preserved
block_kept-loop-statement-preserved t c =
    block_step c.args.setting.now.range c.args.setting.now.whole.now c.args.held.now c.deref-statement-items.result.now c.loop-statement.statement-index c.statement-item.result
    c.args.best c.loop-statement.best c.in_ok-best.best c.loop-statement-test.true c.statement-item.is (sym c.is_again.ensures ∙ c.if-is_again.false) c.in_ok-best.ensures c.loop-statement.invariant

pub block_kept-returns : goal.block_kept-returns
block_kept-returns t c =
    block_done c.args.setting.now.range c.args.setting.now.whole.now c.args.held.now c.args.block.now c.deref-statement-items.result.now c.loop-statement.statement-index
    c.args.best c.loop-statement.best c.deref-statement-items.ensures.value c.loop-statement-test.false c.loop-statement.invariant

pub stmt_kept-returns-in_ok-last-in-Loop : goal.stmt_kept-returns-in_ok-last-in-Loop
stmt_kept-returns-in_ok-last-in-Loop t c =
    loop_first c.args.setting.now.range c.args.setting.now.whole.now c.args.held.now c.deref-in-Loop.result.now (plain_stmt c.args.statement.now).mark (plain_block c.in-Loop.body).mark
    c.in-Loop.id (plain_block c.in-Loop.body).block c.in_ok-areas-in-Loop.areas.items c.deref.result.now c.args.best c.in_ok-first-in-Loop.first c.in_ok-last-in-Loop.last (plain_stmt c.args.statement.now).stmt
    (plain_loop c.args.statement.now c.in-Loop.id c.in-Loop.body c.in-Loop.is) c.deref.ensures.value c.in_ok-areas-in-Loop.ensures
    (subst (λ m. FirstLone c.args.setting.now.range c.args.setting.now.whole.now c.args.held.now m c.in-Loop.id (plain_block c.in-Loop.body).block c.deref.result.now c.args.best c.in_ok-first-in-Loop.first)
    (sym (plain_mark c.args.statement.now)) c.in_ok-first-in-Loop.ensures)
    (ap ids_of c.deref-in-Loop.ensures.value ∙ c.in_ok-inside-in-Loop.ensures.ids)
    (λ n role x. ap (λ l. held_of l n role x) c.deref-in-Loop.ensures.value ∙ c.in_ok-inside-in-Loop.ensures.held n role x) c.in_ok-last-in-Loop.ensures

pub stmt_kept-returns-in-Choice : goal.stmt_kept-returns-in-Choice
stmt_kept-returns-in-Choice t c =
    IfOk-weaker c.choice_kept.result _ _
    (λ new first. choice_at c.args.setting.now.range c.args.setting.now.whole.now c.args.held.now (plain_stmt c.args.statement.now).mark c.in-Choice.kernel c.in-Choice.at c.in-Choice.branches.items c.deref-in-Choice.result.now
    c.args.best new (plain_stmt c.args.statement.now).stmt (plain_choice c.args.statement.now c.in-Choice.kernel c.in-Choice.at c.in-Choice.branches c.in-Choice.is) c.deref-in-Choice.ensures.value first)
    c.choice_kept.ensures

pub choice_kept-returns : goal.choice_kept-returns
choice_kept-returns t c =
    choice_first c.args.setting.now.range c.args.setting.now.whole.now c.args.held.now c.args.at.now (branches_of (map plain_block c.args.branches.now))
    c.args.best c.in_ok-first.first c.in_ok-last.last c.in_ok-first.ensures c.in_ok-last.ensures

pub inside_kept-loop-branch-init : goal.inside_kept-loop-branch-init
inside_kept-loop-branch-init t c =
    inside_start c.args.setting.now.range c.args.setting.now.whole.now c.args.held.now c.args.branches.now c.args.best

pub inside_kept-loop-branch-preserved : goal.inside_kept-loop-branch-preserved
inside_kept-loop-branch-preserved t c =
    inside_step c.args.setting.now.range c.args.setting.now.whole.now c.args.held.now c.args.branches.now c.loop-branch.branch-index c.branch-item.result
    c.args.best c.loop-branch.best c.in_ok-best.best c.loop-branch-test.true c.branch-item.is c.in_ok-best.ensures c.loop-branch.invariant

pub inside_kept-returns : goal.inside_kept-returns
inside_kept-returns t c =
    inside_done c.args.setting.now.range c.args.setting.now.whole.now c.args.held.now c.args.branches.now c.loop-branch.branch-index
    c.args.best c.loop-branch.best c.loop-branch-test.false c.loop-branch.invariant
