use Rattle.std.proofs.Common.{◌∙◌, ap, map}
use Rattle.pb_local.specs.Tree.{plain}
use Rattle.pb_local.proofs.Copies.{choice_copied, when_copied, for_copied, loop_copied}
use Rattle.pb_local.proofs.Steps.{made_step}
use Rattle.pb_local.proofs.copy.+copy.Goals as goal

pub copy_stmt-returns-after-loop-branch : goal.copy_stmt-returns-after-loop-branch
copy_stmt-returns-after-loop-branch t c =
    let it = c.in-Choice in
    choice_copied c.args.stmt.now it.who it.kernel it.relays c.in_ok-relays-in-Choice.relays it.from it.tests c.in_ok-tests-in-Choice.tests it.branches c.loop-branch.parts c.deref-branch-items.result.now c.loop-branch.branch-index
    it.is (c.in_ok-relays-in-Choice.ensures ∙ c.deref-in-Choice.ensures.value) (c.in_ok-tests-in-Choice.ensures ∙ c.deref-in-Choice-2.ensures.value) c.deref-branch-items.ensures.value c.loop-branch-test.false c.loop-branch.invariant

pub copy_all-loop-stmt-preserved : goal.copy_all-loop-stmt-preserved
copy_all-loop-stmt-preserved t c = made_step plain _ _ _ _ c.stmt-item.result c.in_ok-copy_stmt.field-0 c.loop-stmt-test.true c.stmt-item.is c.in_ok-copy_stmt.ensures c.in_ok-push.ensures.items c.loop-stmt.invariant

pub copy_stmt-loop-branch-preserved : goal.copy_stmt-loop-branch-preserved
copy_stmt-loop-branch-preserved t c =
    made_step (λ v. map plain v.items) _ _ _ _ c.branch-item.result c.in_ok-copy_all-in-Choice.field-0 c.loop-branch-test.true c.branch-item.is
    (c.in_ok-copy_all-in-Choice.ensures ∙ ap (map plain) c.deref-in-loop-branch.ensures.value) c.in_ok-push-in-Choice.ensures.items c.loop-branch.invariant

pub copy_stmt-returns-in_ok-copy_all-in-If-2 : goal.copy_stmt-returns-in_ok-copy_all-in-If-2
copy_stmt-returns-in_ok-copy_all-in-If-2 t c =
    let it = c.in-If in
    when_copied c.args.stmt.now it.guards _ it.first it.other c.in_ok-copy_all-in-If.field-0 c.in_ok-copy_all-in-If-2.field-0
    it.is (c.in_ok-copy_guards-in-If.ensures ∙ c.list.ensures) (c.in_ok-copy_all-in-If.ensures ∙ ap (map plain) c.deref.ensures.value) (c.in_ok-copy_all-in-If-2.ensures ∙ ap (map plain) c.deref-in-If.ensures.value)

pub copy_stmt-returns-in_ok-copy_all-in-For : goal.copy_stmt-returns-in_ok-copy_all-in-For
copy_stmt-returns-in_ok-copy_all-in-For t c =
    let it = c.in-For in
    for_copied c.args.stmt.now it.low it.high it.body c.in_ok-copy_all-in-For.field-0 it.is (c.in_ok-copy_all-in-For.ensures ∙ ap (map plain) c.deref-in-For.ensures.value)

pub copy_stmt-returns-in_ok-copy_all-in-Loop : goal.copy_stmt-returns-in_ok-copy_all-in-Loop
copy_stmt-returns-in_ok-copy_all-in-Loop t c =
    let it = c.in-Loop in
    loop_copied c.args.stmt.now it.id it.body c.in_ok-copy_all-in-Loop.field-0 it.is (c.in_ok-copy_all-in-Loop.ensures ∙ ap (map plain) c.deref-in-Loop.ensures.value)
