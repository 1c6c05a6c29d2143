use Rattle.std.proofs.Common.{◌≡◌, ap, sym, subst, ◌∙◌, ◌+◌, map, drop, drop_of_length-le, refl}
use Rattle.std.proofs.lemmas.Result.{on_ok_weaker}
use Rattle.pb_core_language.specs.Plain.{plain_stmt, plain_block, block_of, branches_of}
use Rattle.pb_core_language.specs.Tree.{nothing, no_branch, message, foreach, loop, again, choice, run, barrier, broadcast, reduce, allreduce}
use Rattle.pb_part_takers.specs.Loops.{IsInside}
use Rattle.pb_part_takers.specs.Pieces.{IsAdded, stmt_piece, block_piece, branches_piece, stmt_of}
use Rattle.pb_part_takers.proofs.HeldLoops.{from_place}
use Rattle.pb_part_takers.proofs.Steps.{nothing_added, block_more, block_last, branch_more, run_added, choice_added, loop_added, joint_added, of_kind}
use Rattle.pb_core_language.proofs.Plains.{plain_list, plain_message, plain_foreach, plain_loop, plain_again, plain_choice, plain_run, plain_barrier, plain_broadcast, plain_reduce, plain_allreduce}
use Rattle.pb_part_takers.proofs.walk.+taking.Goals as goal

pub gather_in-loop-stmt-preserved : goal.gather_in-loop-stmt-preserved
gather_in-loop-stmt-preserved t c = λ new rest.
    let items = c.deref-stmt-items.result.now in
    let whole = c.args.whole.now in
    let held = c.args.held.now in
    c.loop-stmt.invariant new
    (subst (λ z. IsAdded whole held (block_piece held (block_of (map plain_stmt z))) c.loop-stmt.out.items new) (sym (from_place items c.loop-stmt.stmt-index c.stmt-item.result c.loop-stmt-test.true c.stmt-item.is))
    (block_more whole held (plain_stmt c.stmt-item.result) (block_of (map plain_stmt (drop (c.loop-stmt.stmt-index + 1) items))) c.loop-stmt.out.items c.gather_at.new.out.items new
    (sym c.is_again.ensures ∙ c.if-is_again.false) c.in_ok-gather_at.ensures rest))

pub gather_in-returns-then-is_again : goal.gather_in-returns-then-is_again
gather_in-returns-then-is_again t c =
    let items = c.deref-stmt-items.result.now in
    let whole = c.args.whole.now in
    let held = c.args.held.now in
    let same : block_of (map plain_stmt items) ≡ (plain_block c.args.block.now).block = ap (λ z. block_of (map plain_stmt z)) c.deref-stmt-items.ensures.value ∙ sym (plain_list c.args.block.now) in
    subst (λ z. IsAdded whole held (block_piece held z) c.args.out.now.items c.gather_at.new.out.items) same
    (c.loop-stmt.invariant c.gather_at.new.out.items
    (subst (λ z. IsAdded whole held (block_piece held (block_of (map plain_stmt z))) c.loop-stmt.out.items c.gather_at.new.out.items) (sym (from_place items c.loop-stmt.stmt-index c.stmt-item.result c.loop-stmt-test.true c.stmt-item.is))
    (block_last whole held (plain_stmt c.stmt-item.result) (block_of (map plain_stmt (drop (c.loop-stmt.stmt-index + 1) items))) c.loop-stmt.out.items c.gather_at.new.out.items
    (sym c.is_again.ensures ∙ c.if-is_again.true) c.in_ok-gather_at.ensures)))

pub gather_in-returns : goal.gather_in-returns
gather_in-returns t c =
    let items = c.deref-stmt-items.result.now in
    let whole = c.args.whole.now in
    let held = c.args.held.now in
    let same : block_of (map plain_stmt items) ≡ (plain_block c.args.block.now).block = ap (λ z. block_of (map plain_stmt z)) c.deref-stmt-items.ensures.value ∙ sym (plain_list c.args.block.now) in
    subst (λ z. IsAdded whole held (block_piece held z) c.args.out.now.items c.loop-stmt.out.items) same
    (c.loop-stmt.invariant c.loop-stmt.out.items
    (subst (λ z. IsAdded whole held (block_piece held (block_of (map plain_stmt z))) c.loop-stmt.out.items c.loop-stmt.out.items) (sym (drop_of_length-le items c.loop-stmt-test.false))
    (nothing_added whole held (block_piece held nothing) c.loop-stmt.out.items (λ rows roles n role x _. refl))))

pub takers_of_loop-returns : goal.takers_of_loop-returns
takers_of_loop-returns t c = λ mark.
    loop_added c.args.whole.now c.args.held.now c.in_ok-inner.inner.items c.args.id mark (plain_block c.args.body.now).mark (plain_block c.args.body.now).block c.args.out.now.items c.gather_in.new.out.items
    (subst (λ z. IsInside c.args.held.now c.args.id z c.in_ok-inner.inner.items) c.new.ensures.items c.in_ok-inner.ensures)
    (rw c.deref.ensures.value at c.in_ok-gather_in.ensures)

pub takers_among-loop-branch-preserved : goal.takers_among-loop-branch-preserved
takers_among-loop-branch-preserved t c = λ new rest.
    let items = c.args.branches.now in
    let whole = c.args.whole.now in
    let held = c.args.held.now in
    c.loop-branch.invariant new
    (subst (λ z. IsAdded whole held (branches_piece held (branches_of (map plain_block z))) c.loop-branch.out.items new) (sym (from_place items c.loop-branch.branch-index c.branch-item.result c.loop-branch-test.true c.branch-item.is))
    (branch_more whole held (plain_block c.branch-item.result).mark (plain_block c.branch-item.result).block (branches_of (map plain_block (drop (c.loop-branch.branch-index + 1) items))) c.loop-branch.out.items c.gather_in.new.out.items new
    c.in_ok-gather_in.ensures rest))

pub takers_among-returns : goal.takers_among-returns
takers_among-returns t c =
    let items = c.args.branches.now in
    let whole = c.args.whole.now in
    let held = c.args.held.now in
    c.loop-branch.invariant c.loop-branch.out.items
    (subst (λ z. IsAdded whole held (branches_piece held (branches_of (map plain_block z))) c.loop-branch.out.items c.loop-branch.out.items) (sym (drop_of_length-le items c.loop-branch-test.false))
    (nothing_added whole held (branches_piece held no_branch) c.loop-branch.out.items (λ rows roles n role x _. refl)))

pub takers_of_choice-returns : goal.takers_of_choice-returns
takers_of_choice-returns t c = λ kernel mark.
    choice_added c.args.whole.now c.args.held.now kernel mark c.args.at (branches_of (map plain_block c.args.branches.now)) c.args.out.now.items c.add_end.new.out.items c.takers_among.new.out.items
    (c.in_ok-add_end.ensures c.args.held.now) c.in_ok-takers_among.ensures

pub gather_at-returns-in-Message : goal.gather_at-returns-in-Message
gather_at-returns-in-Message t c = on_ok_weaker c.takers_of_message.result (λ d.
    of_kind c.args.whole.now c.args.held.now c.args.stmt.now (message c.in-Message.label c.in-Message.from c.in-Message.to) c.args.out.now.items c.takers_of_message.new.out.items
    (plain_message c.args.stmt.now c.in-Message.label c.in-Message.from c.in-Message.to c.in-Message.is) (d c.args.held.now c.in-Message.label (plain_stmt c.args.stmt.now).mark)) c.takers_of_message.ensures

pub gather_at-returns-in-Foreach : goal.gather_at-returns-in-Foreach
gather_at-returns-in-Foreach t c = on_ok_weaker c.takers_of_each.result (λ d.
    of_kind c.args.whole.now c.args.held.now c.args.stmt.now (foreach (record { low = c.in-Foreach.low; high = c.in-Foreach.high }) (plain_block c.in-Foreach.items).mark (plain_block c.in-Foreach.items).block) c.args.out.now.items c.takers_of_each.new.out.items
    (plain_foreach c.args.stmt.now c.in-Foreach.low c.in-Foreach.high c.in-Foreach.items c.in-Foreach.is) (d c.args.held.now (plain_stmt c.args.stmt.now).mark)) c.takers_of_each.ensures

pub gather_at-returns-in-Loop : goal.gather_at-returns-in-Loop
gather_at-returns-in-Loop t c = on_ok_weaker c.takers_of_loop.result (λ d.
    of_kind c.args.whole.now c.args.held.now c.args.stmt.now (loop c.in-Loop.id (plain_block c.in-Loop.body).mark (plain_block c.in-Loop.body).block) c.args.out.now.items c.takers_of_loop.new.out.items
    (plain_loop c.args.stmt.now c.in-Loop.id c.in-Loop.body c.in-Loop.is) (d (plain_stmt c.args.stmt.now).mark)) c.takers_of_loop.ensures

pub gather_at-returns-in-Again : goal.gather_at-returns-in-Again
gather_at-returns-in-Again t c = on_ok_weaker c.takers_of_continue.result (λ d.
    of_kind c.args.whole.now c.args.held.now c.args.stmt.now (again c.in-Again.id) c.args.out.now.items c.takers_of_continue.new.out.items
    (plain_again c.args.stmt.now c.in-Again.id c.in-Again.is) (d c.args.whole.now (plain_stmt c.args.stmt.now).mark)) c.takers_of_continue.ensures

pub gather_at-returns-in-Choice : goal.gather_at-returns-in-Choice
gather_at-returns-in-Choice t c = on_ok_weaker c.takers_of_choice.result (λ d.
    of_kind c.args.whole.now c.args.held.now c.args.stmt.now (choice c.in-Choice.kernel c.in-Choice.at (branches_of (map plain_block c.deref.result.now))) c.args.out.now.items c.takers_of_choice.new.out.items
    (plain_choice c.args.stmt.now c.in-Choice.kernel c.in-Choice.at c.in-Choice.branches c.in-Choice.is ∙ ap (λ z. choice c.in-Choice.kernel c.in-Choice.at (branches_of (map plain_block z))) (sym c.deref.ensures.value))
    (d c.in-Choice.kernel (plain_stmt c.args.stmt.now).mark)) c.takers_of_choice.ensures

pub gather_at-returns-in-Run : goal.gather_at-returns-in-Run
gather_at-returns-in-Run t c = on_ok_weaker c.add_end.result (λ d.
    of_kind c.args.whole.now c.args.held.now c.args.stmt.now (run c.in-Run.kernel c.in-Run.at) c.args.out.now.items c.add_end.new.out.items
    (plain_run c.args.stmt.now c.in-Run.kernel c.in-Run.at c.in-Run.is)
    (run_added c.args.whole.now c.args.held.now c.in-Run.kernel (plain_stmt c.args.stmt.now).mark c.in-Run.at c.args.out.now.items c.add_end.new.out.items (d c.args.held.now))) c.add_end.ensures

pub gather_at-returns-in-Barrier : goal.gather_at-returns-in-Barrier
gather_at-returns-in-Barrier t c = on_ok_weaker c.takers_of_all.result (λ d.
    of_kind c.args.whole.now c.args.held.now c.args.stmt.now barrier c.args.out.now.items c.takers_of_all.new.out.items (plain_barrier c.args.stmt.now c.in-Barrier.is)
    (joint_added c.args.whole.now c.args.held.now (stmt_piece c.args.held.now (stmt_of (plain_stmt c.args.stmt.now).mark barrier)) c.args.out.now.items c.takers_of_all.new.out.items (λ roles n role x. refl) (d c.args.held.now))) c.takers_of_all.ensures

pub gather_at-returns-in-Broadcast : goal.gather_at-returns-in-Broadcast
gather_at-returns-in-Broadcast t c = on_ok_weaker c.takers_of_all-in-Broadcast.result (λ d.
    of_kind c.args.whole.now c.args.held.now c.args.stmt.now (broadcast c.in-Broadcast.label c.in-Broadcast.root) c.args.out.now.items c.takers_of_all-in-Broadcast.new.out.items (plain_broadcast c.args.stmt.now c.in-Broadcast.label c.in-Broadcast.root c.in-Broadcast.is)
    (joint_added c.args.whole.now c.args.held.now (stmt_piece c.args.held.now (stmt_of (plain_stmt c.args.stmt.now).mark (broadcast c.in-Broadcast.label c.in-Broadcast.root))) c.args.out.now.items c.takers_of_all-in-Broadcast.new.out.items (λ roles n role x. refl) (d c.args.held.now))) c.takers_of_all-in-Broadcast.ensures

pub gather_at-returns-in-Reduce : goal.gather_at-returns-in-Reduce
gather_at-returns-in-Reduce t c = on_ok_weaker c.takers_of_all-in-Reduce.result (λ d.
    of_kind c.args.whole.now c.args.held.now c.args.stmt.now (reduce c.in-Reduce.label c.in-Reduce.op c.in-Reduce.root) c.args.out.now.items c.takers_of_all-in-Reduce.new.out.items (plain_reduce c.args.stmt.now c.in-Reduce.label c.in-Reduce.op c.in-Reduce.root c.in-Reduce.is)
    (joint_added c.args.whole.now c.args.held.now (stmt_piece c.args.held.now (stmt_of (plain_stmt c.args.stmt.now).mark (reduce c.in-Reduce.label c.in-Reduce.op c.in-Reduce.root))) c.args.out.now.items c.takers_of_all-in-Reduce.new.out.items (λ roles n role x. refl) (d c.args.held.now))) c.takers_of_all-in-Reduce.ensures

pub gather_at-returns-in-Allreduce : goal.gather_at-returns-in-Allreduce
gather_at-returns-in-Allreduce t c = on_ok_weaker c.takers_of_all-in-Allreduce.result (λ d.
    of_kind c.args.whole.now c.args.held.now c.args.stmt.now (allreduce c.in-Allreduce.label c.in-Allreduce.op) c.args.out.now.items c.takers_of_all-in-Allreduce.new.out.items (plain_allreduce c.args.stmt.now c.in-Allreduce.label c.in-Allreduce.op c.in-Allreduce.is)
    (joint_added c.args.whole.now c.args.held.now (stmt_piece c.args.held.now (stmt_of (plain_stmt c.args.stmt.now).mark (allreduce c.in-Allreduce.label c.in-Allreduce.op))) c.args.out.now.items c.takers_of_all-in-Allreduce.new.out.items (λ roles n role x. refl) (d c.args.held.now))) c.takers_of_all-in-Allreduce.ensures
