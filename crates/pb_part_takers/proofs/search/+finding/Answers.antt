use Rattle.std.proofs.Common.{◌≡◌, ◌∷◌, ap, sym, subst, ◌∙◌, ◌+◌, map, drop, drop_of_length-le, refl}
use Rattle.std.proofs.lemmas.Result.{on_ok_weaker}
use Rattle.pb_core_language.specs.Plain.{plain_stmt, plain_block, block_of, branches_of}
use Rattle.pb_core_language.specs.Tree.{loop, nothing, no_branch, choice}
use Rattle.pb_part_takers.specs.Pieces.{IsAdded, within_piece, across_piece, below_piece}
use Rattle.pb_part_takers.proofs.HeldLoops.{from_place}
use Rattle.pb_part_takers.proofs.Steps.{nothing_added}
use Rattle.pb_core_flat.specs.Seated.{rank}
use Rattle.pb_part_takers.specs.Loops.{ids_of}
use Rattle.pb_part_takers.proofs.Quiet.{quiet_within}
use Rattle.pb_part_takers.proofs.Finds as finds
use Rattle.pb_core_language.proofs.Plains.{plain_list, plain_message, plain_foreach, plain_loop, plain_again, plain_choice, plain_run, plain_barrier, plain_broadcast, plain_reduce, plain_allreduce}
use Rattle.pb_part_takers.proofs.search.+finding.Goals as goal

pub within-loop-stmt-preserved : goal.within-loop-stmt-preserved
within-loop-stmt-preserved t c = λ new rest.
    let items = c.deref-stmt-items.result.now in
    let whole = c.args.whole.now in
    let held = c.args.held.now in
    c.loop-stmt.invariant new
    (subst (λ z. IsAdded whole held (within_piece held c.args.number (block_of (map plain_stmt z))) c.loop-stmt.out.items new) (sym (from_place items c.loop-stmt.stmt-index c.stmt-item.result c.loop-stmt-test.true c.stmt-item.is))
    (finds.within_more whole held c.args.number (plain_stmt c.stmt-item.result) (block_of (map plain_stmt (drop (c.loop-stmt.stmt-index + 1) items))) c.loop-stmt.out.items c.here.new.out.items c.below.new.out.items new
    c.in_ok-here.ensures c.in_ok-below.ensures rest))

pub within-returns : goal.within-returns
within-returns t c =
    let items = c.deref-stmt-items.result.now in
    let whole = c.args.whole.now in
    let held = c.args.held.now in
    let same : block_of (map plain_stmt items) ≡ (plain_block c.args.block.now).block = ap (λ z. block_of (map plain_stmt z)) c.deref-stmt-items.ensures.value ∙ sym (plain_list c.args.block.now) in
    subst (λ z. IsAdded whole held (within_piece held c.args.number z) c.args.out.now.items c.loop-stmt.out.items) same
    (c.loop-stmt.invariant c.loop-stmt.out.items
    (subst (λ z. IsAdded whole held (within_piece held c.args.number (block_of (map plain_stmt z))) c.loop-stmt.out.items c.loop-stmt.out.items) (sym (drop_of_length-le items c.loop-stmt-test.false))
    (nothing_added whole held (within_piece held c.args.number nothing) c.loop-stmt.out.items (λ rows roles n role x _. refl))))

pub across-loop-branch-preserved : goal.across-loop-branch-preserved
across-loop-branch-preserved t c = λ new rest.
    let items = c.args.branches.now in
    let whole = c.args.whole.now in
    let held = c.args.held.now in
    c.loop-branch.invariant new
    (subst (λ z. IsAdded whole held (across_piece held c.args.number (branches_of (map plain_block z))) c.loop-branch.out.items new) (sym (from_place items c.loop-branch.branch-index c.branch-item.result c.loop-branch-test.true c.branch-item.is))
    (finds.across_more whole held c.args.number (plain_block c.branch-item.result).mark (plain_block c.branch-item.result).block (branches_of (map plain_block (drop (c.loop-branch.branch-index + 1) items))) c.loop-branch.out.items c.within.new.out.items new
    c.in_ok-within.ensures rest))

pub across-returns : goal.across-returns
across-returns t c =
    let items = c.args.branches.now in
    let whole = c.args.whole.now in
    let held = c.args.held.now in
    c.loop-branch.invariant c.loop-branch.out.items
    (subst (λ z. IsAdded whole held (across_piece held c.args.number (branches_of (map plain_block z))) c.loop-branch.out.items c.loop-branch.out.items) (sym (drop_of_length-le items c.loop-branch-test.false))
    (nothing_added whole held (across_piece held c.args.number no_branch) c.loop-branch.out.items (λ rows roles n role x _. refl)))

pub inside_loop-returns : goal.inside_loop-returns
inside_loop-returns t c =
    finds.below_loop c.args.whole.now c.args.held.now c.in_ok-inner.inner.items c.args.id c.args.number (plain_block c.args.body.now).mark (plain_block c.args.body.now).block c.in_ok-areas.areas.items c.args.out.now.items c.within.new.out.items
    c.in_ok-areas.ensures c.in_ok-inner.ensures (rw c.deref.ensures.value at c.in_ok-within.ensures)

pub below-returns-in-Loop : goal.below-returns-in-Loop
below-returns-in-Loop t c = on_ok_weaker c.below_loop.result (λ d.
    subst (λ z. IsAdded c.args.whole.now c.args.held.now (below_piece c.args.held.now c.args.number z) c.args.out.now.items c.below_loop.new.out.items) (sym (plain_loop c.args.stmt.now c.in-Loop.id c.in-Loop.body c.in-Loop.is)) d) c.below_loop.ensures

pub below-returns-in-Choice : goal.below-returns-in-Choice
below-returns-in-Choice t c = on_ok_weaker c.across.result (λ d.
    subst (λ z. IsAdded c.args.whole.now c.args.held.now (below_piece c.args.held.now c.args.number z) c.args.out.now.items c.across.new.out.items)
    (ap (λ z. choice c.in-Choice.kernel c.in-Choice.at (branches_of (map plain_block z))) c.deref.ensures.value ∙ sym (plain_choice c.args.stmt.now c.in-Choice.kernel c.in-Choice.at c.in-Choice.branches c.in-Choice.is))
    (finds.below_choice c.args.whole.now c.args.held.now c.args.number c.in-Choice.kernel c.in-Choice.at (branches_of (map plain_block c.deref.result.now)) c.args.out.now.items c.across.new.out.items d)) c.across.ensures

pub below-returns-in-Message : goal.below-returns-in-Message
below-returns-in-Message t c = finds.nothing_below c.args.whole.now c.args.held.now c.args.number c.args.stmt.now _ c.args.out.now.items (plain_message c.args.stmt.now c.in-Message.label c.in-Message.from c.in-Message.to c.in-Message.is) (λ roles n r ids bools. refl)

pub below-returns-in-Foreach : goal.below-returns-in-Foreach
below-returns-in-Foreach t c = finds.nothing_below c.args.whole.now c.args.held.now c.args.number c.args.stmt.now _ c.args.out.now.items (plain_foreach c.args.stmt.now c.in-Foreach.low c.in-Foreach.high c.in-Foreach.items c.in-Foreach.is) (λ roles n r ids bools. refl)

pub below-returns-in-Again : goal.below-returns-in-Again
below-returns-in-Again t c = finds.nothing_below c.args.whole.now c.args.held.now c.args.number c.args.stmt.now _ c.args.out.now.items (plain_again c.args.stmt.now c.in-Again.id c.in-Again.is) (λ roles n r ids bools. refl)

pub below-returns-in-Run : goal.below-returns-in-Run
below-returns-in-Run t c = finds.nothing_below c.args.whole.now c.args.held.now c.args.number c.args.stmt.now _ c.args.out.now.items (plain_run c.args.stmt.now c.in-Run.kernel c.in-Run.at c.in-Run.is) (λ roles n r ids bools. refl)

pub below-returns-in-Barrier : goal.below-returns-in-Barrier
below-returns-in-Barrier t c = finds.nothing_below c.args.whole.now c.args.held.now c.args.number c.args.stmt.now _ c.args.out.now.items (plain_barrier c.args.stmt.now c.in-Barrier.is) (λ roles n r ids bools. refl)

pub below-returns-in-Broadcast : goal.below-returns-in-Broadcast
below-returns-in-Broadcast t c = finds.nothing_below c.args.whole.now c.args.held.now c.args.number c.args.stmt.now _ c.args.out.now.items (plain_broadcast c.args.stmt.now c.in-Broadcast.label c.in-Broadcast.root c.in-Broadcast.is) (λ roles n r ids bools. refl)

pub below-returns-in-Reduce : goal.below-returns-in-Reduce
below-returns-in-Reduce t c = finds.nothing_below c.args.whole.now c.args.held.now c.args.number c.args.stmt.now _ c.args.out.now.items (plain_reduce c.args.stmt.now c.in-Reduce.label c.in-Reduce.op c.in-Reduce.root c.in-Reduce.is) (λ roles n r ids bools. refl)

pub below-returns-in-Allreduce : goal.below-returns-in-Allreduce
below-returns-in-Allreduce t c = finds.nothing_below c.args.whole.now c.args.held.now c.args.number c.args.stmt.now _ c.args.out.now.items (plain_allreduce c.args.stmt.now c.in-Allreduce.label c.in-Allreduce.op c.in-Allreduce.is) (λ roles n r ids bools. refl)

pub below_loop-returns-else-is_within : goal.below_loop-returns-else-is_within
below_loop-returns-else-is_within t c =
    nothing_added c.args.whole.now c.args.held.now (below_piece c.args.held.now c.args.number (loop c.args.id (plain_block c.args.body.now).mark (plain_block c.args.body.now).block)) c.args.out.now.items
    (λ rows roles n role x _. quiet_within roles n (rank roles n role x) c.args.number (c.args.id ∷ ids_of c.args.held.now) _ (plain_block c.args.body.now).block (sym c.is_within.ensures ∙ c.if-is_within.false))
