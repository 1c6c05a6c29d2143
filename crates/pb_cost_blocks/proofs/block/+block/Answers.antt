use Rattle.std.proofs.Common.{◌≡◌, ap, sym, subst, ◌∙◌, ◌+◌, map, drop, drop_of_length-le}
use Rattle.std.proofs.lemmas.Result.{err_from_is_err_and, MatchResult-weaker}
use Rattle.pb_core_language.specs.Plain.{plain_stmt, plain_block, block_of, branches_of}
use Rattle.pb_core_language.specs.Tree.{choice}
use Rattle.pb_core_language.proofs.Plains.{plain_list, plain_message, plain_foreach, plain_loop, plain_choice}
use Rattle.pb_cost_blocks.specs.Answers.{StmtAnswer}
use Rattle.pb_cost_blocks.specs.Sums.{IsSum, IsBest}
use Rattle.pb_cost_blocks.proofs.Steps.{from_place, sum_begins, begin_stops, sum_ends, end_stops, stmt_stops, sum_stops, sum_goes_on}
use Rattle.pb_cost_blocks.proofs.Branches.{best_begins, first_stops, best_ends, branch_stops, best_stops, best_goes_on}
use Rattle.pb_cost_blocks.proofs.block.+block.Goals as goal

pub of_block-returns-in_err-running : goal.of_block-returns-in_err-running
of_block-returns-in_err-running t c =
    let p = err_from_is_err_and c.from_residual.result c.from_residual.ensures.1 in
    rw (p.1, p.2) (begin_stops c.args.asked c.args.labels.now (plain_block c.args.block.now).block c.in_err-running.field-0.0 c.in_err-running.ensures)

pub of_block-loop-stmt-init : goal.of_block-loop-stmt-init
of_block-loop-stmt-init t c =
    let items = c.deref-stmt-items.result.now in
    let same : block_of (map plain_stmt items) ≡ (plain_block c.args.block.now).block = ap (λ z. block_of (map plain_stmt z)) c.deref-stmt-items.ensures.value ∙ sym (plain_list c.args.block.now) in
    subst (λ z. IsSum c.args.asked c.args.labels.now c.in_ok-running.running z (plain_block c.args.block.now).block) (sym same) (sum_begins c.args.asked c.args.labels.now c.in_ok-running.running (plain_block c.args.block.now).block c.in_ok-running.ensures)

pub of_block-returns-in_err-next : goal.of_block-returns-in_err-next
of_block-returns-in_err-next t c =
    let items = c.deref-stmt-items.result.now in
    let p = err_from_is_err_and c.from_residual-in_err-next.result c.from_residual-in_err-next.ensures.1 in
    let here = subst (λ z. IsSum c.args.asked c.args.labels.now c.loop-stmt.running (block_of (map plain_stmt z)) (plain_block c.args.block.now).block) (from_place items c.loop-stmt.stmt-index c.stmt-item.result c.loop-stmt-test.true c.stmt-item.is) c.loop-stmt.invariant in
    rw (p.1, p.2)
    (stmt_stops c.args.asked c.args.labels.now c.loop-stmt.running (plain_stmt c.stmt-item.result).mark (plain_stmt c.stmt-item.result).stmt (block_of (map plain_stmt (drop (c.loop-stmt.stmt-index + 1) items))) (plain_block c.args.block.now).block here
    c.in_err-next.field-0.0 c.in_err-next.ensures)

pub of_block-returns-in_err-running-2 : goal.of_block-returns-in_err-running-2
of_block-returns-in_err-running-2 t c =
    let items = c.deref-stmt-items.result.now in
    let p = err_from_is_err_and c.from_residual-in_err-running-2.result c.from_residual-in_err-running-2.ensures.1 in
    let here = subst (λ z. IsSum c.args.asked c.args.labels.now c.loop-stmt.running (block_of (map plain_stmt z)) (plain_block c.args.block.now).block) (from_place items c.loop-stmt.stmt-index c.stmt-item.result c.loop-stmt-test.true c.stmt-item.is) c.loop-stmt.invariant in
    rw (p.1, p.2)
    (sum_stops c.args.asked c.args.labels.now c.loop-stmt.running (plain_stmt c.stmt-item.result).mark (plain_stmt c.stmt-item.result).stmt (block_of (map plain_stmt (drop (c.loop-stmt.stmt-index + 1) items))) (plain_block c.args.block.now).block here
    c.in_ok-next.next c.in_ok-next.ensures c.in_err-running-2.field-0.0 c.in_err-running-2.ensures)

pub of_block-loop-stmt-preserved : goal.of_block-loop-stmt-preserved
of_block-loop-stmt-preserved t c =
    let items = c.deref-stmt-items.result.now in
    let here = subst (λ z. IsSum c.args.asked c.args.labels.now c.loop-stmt.running (block_of (map plain_stmt z)) (plain_block c.args.block.now).block) (from_place items c.loop-stmt.stmt-index c.stmt-item.result c.loop-stmt-test.true c.stmt-item.is) c.loop-stmt.invariant in
    sum_goes_on c.args.asked c.args.labels.now c.loop-stmt.running (plain_stmt c.stmt-item.result).mark (plain_stmt c.stmt-item.result).stmt (block_of (map plain_stmt (drop (c.loop-stmt.stmt-index + 1) items))) (plain_block c.args.block.now).block here
    c.in_ok-next.next c.in_ok-next.ensures c.in_ok-running-2.running c.in_ok-running-2.ensures

pub of_block-returns : goal.of_block-returns
of_block-returns t c =
    let items = c.deref-stmt-items.result.now in
    let all = subst (λ z. IsSum c.args.asked c.args.labels.now c.loop-stmt.running (block_of (map plain_stmt z)) (plain_block c.args.block.now).block) (drop_of_length-le items c.loop-stmt-test.false) c.loop-stmt.invariant in
    MatchResult-weaker c.finish.result c.finish.ensures (sum_ends c.args.asked c.args.labels.now c.loop-stmt.running (plain_block c.args.block.now).block all) (end_stops c.args.asked c.args.labels.now c.loop-stmt.running (plain_block c.args.block.now).block all)

pub of_branches-loop-branch-init : goal.of_branches-loop-branch-init
of_branches-loop-branch-init t c =
    subst (λ z. IsBest c.args.asked c.args.labels.now c.in_ok-best.best (branches_of (map plain_block c.in-Some.others.now)) (branches_of (map plain_block z))) (sym c.in-Some.ensures.cases.0)
    (best_begins c.args.asked c.args.labels.now c.in_ok-best.best (plain_block c.in-Some.first.now).mark (plain_block c.in-Some.first.now).block (branches_of (map plain_block c.in-Some.others.now)) c.in_ok-best.ensures)

pub of_branches-returns-in_err-best : goal.of_branches-returns-in_err-best
of_branches-returns-in_err-best t c =
    let p = err_from_is_err_and c.from_residual.result c.from_residual.ensures.1 in
    rw (p.1, p.2, c.in-Some.ensures.cases.0)
    (first_stops c.args.asked c.args.labels.now (plain_block c.in-Some.first.now).mark (plain_block c.in-Some.first.now).block (branches_of (map plain_block c.in-Some.others.now)) c.in_err-best.field-0.0 c.in_err-best.ensures)

pub of_branches-returns-in_err-next : goal.of_branches-returns-in_err-next
of_branches-returns-in_err-next t c =
    let items = c.in-Some.others.now in
    let p = err_from_is_err_and c.from_residual-in_err-next.result c.from_residual-in_err-next.ensures.1 in
    let here = subst (λ z. IsBest c.args.asked c.args.labels.now c.loop-branch.best (branches_of (map plain_block z)) (branches_of (map plain_block c.args.branches.now))) (from_place items c.loop-branch.branch-index c.branch-item.result c.loop-branch-test.true c.branch-item.is) c.loop-branch.invariant in
    rw (p.1, p.2)
    (branch_stops c.args.asked c.args.labels.now c.loop-branch.best (plain_block c.branch-item.result).mark (plain_block c.branch-item.result).block (branches_of (map plain_block (drop (c.loop-branch.branch-index + 1) items))) (branches_of (map plain_block c.args.branches.now)) here
    c.in_err-next.field-0.0 c.in_err-next.ensures)

pub of_branches-returns-in_err-best-2 : goal.of_branches-returns-in_err-best-2
of_branches-returns-in_err-best-2 t c =
    let items = c.in-Some.others.now in
    let p = err_from_is_err_and c.from_residual-in_err-best-2.result c.from_residual-in_err-best-2.ensures.1 in
    let here = subst (λ z. IsBest c.args.asked c.args.labels.now c.loop-branch.best (branches_of (map plain_block z)) (branches_of (map plain_block c.args.branches.now))) (from_place items c.loop-branch.branch-index c.branch-item.result c.loop-branch-test.true c.branch-item.is) c.loop-branch.invariant in
    rw (p.1, p.2)
    (best_stops c.args.asked c.args.labels.now c.loop-branch.best (plain_block c.branch-item.result).mark (plain_block c.branch-item.result).block (branches_of (map plain_block (drop (c.loop-branch.branch-index + 1) items))) (branches_of (map plain_block c.args.branches.now)) here
    c.in_ok-next.next c.in_ok-next.ensures c.choosing.result c.choosing.ensures c.in_err-best-2.field-0.0 c.in_err-best-2.ensures)

pub of_branches-loop-branch-preserved : goal.of_branches-loop-branch-preserved
of_branches-loop-branch-preserved t c =
    let items = c.in-Some.others.now in
    let here = subst (λ z. IsBest c.args.asked c.args.labels.now c.loop-branch.best (branches_of (map plain_block z)) (branches_of (map plain_block c.args.branches.now))) (from_place items c.loop-branch.branch-index c.branch-item.result c.loop-branch-test.true c.branch-item.is) c.loop-branch.invariant in
    best_goes_on c.args.asked c.args.labels.now c.loop-branch.best (plain_block c.branch-item.result).mark (plain_block c.branch-item.result).block (branches_of (map plain_block (drop (c.loop-branch.branch-index + 1) items))) (branches_of (map plain_block c.args.branches.now)) here
    c.in_ok-next.next c.in_ok-next.ensures c.choosing.result c.choosing.ensures c.in_ok-best-2.best c.in_ok-best-2.ensures

pub of_branches-returns : goal.of_branches-returns
of_branches-returns t c =
    let items = c.in-Some.others.now in
    best_ends c.args.asked c.args.labels.now c.loop-branch.best (branches_of (map plain_block c.args.branches.now))
    (subst (λ z. IsBest c.args.asked c.args.labels.now c.loop-branch.best (branches_of (map plain_block z)) (branches_of (map plain_block c.args.branches.now))) (drop_of_length-le items c.loop-branch-test.false) c.loop-branch.invariant)

pub of_stmt-returns-in-Message : goal.of_stmt-returns-in-Message
of_stmt-returns-in-Message t c =
    subst (λ z. StmtAnswer c.args.asked c.args.labels.now z c.of_message.result) (sym (plain_message c.args.stmt.now c.in-Message.label c.in-Message.from c.in-Message.to c.in-Message.is)) c.of_message.ensures

pub of_stmt-returns-in-Foreach : goal.of_stmt-returns-in-Foreach
of_stmt-returns-in-Foreach t c =
    subst (λ z. StmtAnswer c.args.asked c.args.labels.now z c.of_foreach.result) (sym (plain_foreach c.args.stmt.now c.in-Foreach.low c.in-Foreach.high c.in-Foreach.items c.in-Foreach.is)) (c.of_foreach.ensures (plain_block c.in-Foreach.items).mark)

pub of_stmt-returns-in-Loop : goal.of_stmt-returns-in-Loop
of_stmt-returns-in-Loop t c =
    subst (λ z. StmtAnswer c.args.asked c.args.labels.now z c.of_block.result) (sym (plain_loop c.args.stmt.now c.in-Loop.id c.in-Loop.body c.in-Loop.is)) c.of_block.ensures

pub of_stmt-returns-in-Choice : goal.of_stmt-returns-in-Choice
of_stmt-returns-in-Choice t c =
    let same = plain_choice c.args.stmt.now c.in-Choice.kernel c.in-Choice.at c.in-Choice.branches c.in-Choice.is ∙ ap (λ z. choice c.in-Choice.kernel c.in-Choice.at (branches_of (map plain_block z))) (sym c.deref.ensures.value) in
    subst (λ z. StmtAnswer c.args.asked c.args.labels.now z c.of_branches.result) (sym same) c.of_branches.ensures
