use Rattle.std.proofs.Common.{◌≡◌, ◌≤◌, ◌+◌, ◌-◌, ℕ, map, drop, take, length, List, [], ◌∷◌, ◌++◌, Option, Some, Ok, refl, sym, ap, ◌∙◌, subst, rules, arith, true, false}
use Rattle.std.proofs.lemmas.Result.{err_from_is_err_and}
use Rattle.std.proofs.lemmas.Option.{slice_get_read, slice_get_past}
use Rattle.std.specs.List.{slice_get}
use Rattle.pb_text.specs.declared.place.Place.{Place}
use Rattle.pb_syntax.specs.Tree as tree
use Rattle.pb_syntax.specs.Tree.{PlainStatement}
use Rattle.pb_syntax.specs.Plain as P
use Rattle.pb_do_syntax.specs.declared.tree.CallStatement.{CallStatement}
use Rattle.pb_do_syntax.specs.Calls as C
use Rattle.pb_do_syntax.specs.Calls.{calls_of, branches_of}
use Rattle.pb_do_syntax.specs.Plain.{plain_sub, plain_statement, plain_block}
use Rattle.pb_do_syntax.specs.Inlining.{Outcome, Written, over_limit, Inlines, InlinesAll, block_behind, with_branch, place_or}
use Rattle.pb_do_inline.specs.declared.count.Count.{Count}
use Rattle.pb_do_inline.specs.declared.frame.Frame.{Frame}
use Rattle.pb_do_inline.specs.Ends.{written, offered, site_of, Stops, HaltsAs, Adds, closed_with}
use Rattle.pb_do_inline.specs.Frames.{FrameInlines, Runs, Steps, Advances, grown_by}
use Rattle.pb_do_inline.proofs.Arms.{stops, added_as, foreach_halts, foreach_gives, loop_halts, loop_gives, choice_halts, choice_gives, branch_halts, branch_goes_on}
use Rattle.pb_do_inline.proofs.Calling.{listed, placed}
use Rattle.pb_do_inline.proofs.Leaves.{at_message, at_again, at_compute, at_barrier, at_broadcast, at_reduce, at_allreduce}
use Rattle.pb_do_inline.proofs.Stacks.{unrolled, branches_unrolled, goes_on, halts, one_call, calls_next, call_ends, call_halts, all_ended, begins, at_statement, from_frame, all_done, no_statement, all_offered}
use Rattle.pb_do_inline.proofs.subs.Subs.+inlines.Goals as goal

-- ---- a list

pub statements-returns-in_err-statement-clause-ends : goal.statements-returns-in_err-statement-clause-ends
statements-returns-in_err-statement-clause-ends t c =
    let p = err_from_is_err_and c.from_residual.result c.from_residual.ensures.1 in
    rw (p.1, p.2) (halts (map plain_sub c.args.self.now.list.now) (site_of (map plain_sub c.args.self.now.list.now) c.args.site.now c.args.left) _ _ (plain_statement c.statement-item.result) (written c.loop-statement.out) c.in_err-statement.field-0.0 _
    (unrolled c.args.list.now c.loop-statement.statement-index c.statement-item.result (search rules) c.statement-item.is) c.in_err-statement.ensures.ends c.loop-statement.invariant.so_far)

pub statements-loop-statement-preserved : goal.statements-loop-statement-preserved
statements-loop-statement-preserved t c =
    let g : c.loop-statement.out.count.n ≤ c.statement.new.out.count.n = c.in_ok-statement.ensures.grows in
    record {
      so_far = goes_on (map plain_sub c.args.self.now.list.now) (site_of (map plain_sub c.args.self.now.list.now) c.args.site.now c.args.left) _ _ (plain_statement c.statement-item.result) (written c.loop-statement.out) (written c.statement.new.out) _
          (unrolled c.args.list.now c.loop-statement.statement-index c.statement-item.result (search rules) c.statement-item.is) c.in_ok-statement.ensures.ends c.loop-statement.invariant.so_far;
      grows = omega (arith, g, c.loop-statement.invariant.grows);
    }

pub statements-returns-clause-ends : goal.statements-returns-clause-ends
statements-returns-clause-ends t c =
    all_done (map plain_sub c.args.self.now.list.now) (site_of (map plain_sub c.args.self.now.list.now) c.args.site.now c.args.left) c.args.list.now c.loop-statement.statement-index (written c.loop-statement.out) _ (search rules) c.loop-statement.invariant.so_far

-- ---- a statement, with the call that it begins

pub statement-returns-in_err-frame-clause-ends : goal.statement-returns-in_err-frame-clause-ends
statement-returns-in_err-frame-clause-ends t c =
    let p = err_from_is_err_and c.from_residual.result c.from_residual.ensures.1 in
    rw (p.1, p.2) c.in_err-frame.ensures.steps

-- ---- statements with braces

pub foreach-returns-in_err-count_one-clause-steps : goal.foreach-returns-in_err-count_one-clause-steps
foreach-returns-in_err-count_one-clause-steps t c =
    let p = err_from_is_err_and c.from_residual.result c.from_residual.ensures.1 in
    let h = c.in_err-count_one.field-0.0 in
    rw (p.1, p.2) (stops (map plain_sub c.args.self.now.list.now) (site_of (map plain_sub c.args.self.now.list.now) c.args.site.now c.args.left) (C.foreach c.args.place c.args.var.now c.args.range.now (plain_block c.args.items.now).place (plain_block c.args.items.now).list) (written c.args.out.now) h
    (subst (λ (p : Place). Stops h (over_limit true c.args.left c.args.out.now.count.n) p) c.blamed.ensures c.in_err-count_one.ensures.counts))

pub foreach-returns-in_err-inner-clause-steps : goal.foreach-returns-in_err-inner-clause-steps
foreach-returns-in_err-inner-clause-steps t c =
    let p = err_from_is_err_and c.from_residual-in_err-inner.result c.from_residual-in_err-inner.ensures.1 in
    let h = c.in_err-inner.field-0.0 in
    rw (p.1, p.2) (foreach_halts (map plain_sub c.args.self.now.list.now) (site_of (map plain_sub c.args.self.now.list.now) c.args.site.now c.args.left) c.args.place c.args.var.now c.args.range.now (plain_block c.args.items.now).place (plain_block c.args.items.now).list (written c.args.out.now) (written c.count_one.new.self) h
    c.in_ok-count_one.ensures.counts.0 c.in_ok-count_one.ensures.counts.1
    (subst (λ (l : C.Calls). HaltsAs h (InlinesAll (map plain_sub c.args.self.now.list.now) (site_of (map plain_sub c.args.self.now.list.now) c.args.site.now (c.args.left - 1)) l (block_behind c.count_one.new.self.count.n))) (ap (λ (xs : List CallStatement). calls_of (map plain_statement xs)) c.deref.ensures.value ∙ listed c.args.items.now) c.in_err-inner.ensures.ends))

pub foreach-returns-clause-steps : goal.foreach-returns-clause-steps
foreach-returns-clause-steps t c =
    let inner : Written = record { list = map P.plain_statement c.in_ok-inner.inner.list.items; count = c.in_ok-inner.inner.count.n } in
    foreach_gives (map plain_sub c.args.self.now.list.now) (site_of (map plain_sub c.args.self.now.list.now) c.args.site.now c.args.left) c.args.place c.args.var.now c.args.range.now (plain_block c.args.items.now).place (plain_block c.args.items.now).list (written c.args.out.now) (written c.count_one.new.self) inner (written c.close.new.self)
    c.in_ok-count_one.ensures.counts.0 c.in_ok-count_one.ensures.counts.1
    (subst (λ (l : C.Calls). InlinesAll (map plain_sub c.args.self.now.list.now) (site_of (map plain_sub c.args.self.now.list.now) c.args.site.now (c.args.left - 1)) l (block_behind c.count_one.new.self.count.n) (Ok inner)) (ap (λ (xs : List CallStatement). calls_of (map plain_statement xs)) c.deref.ensures.value ∙ listed c.args.items.now) c.in_ok-inner.ensures.ends)
    (c.in_ok-close.ensures ∙ ap (λ (s : PlainStatement). closed_with (written c.count_one.new.self) s c.in_ok-inner.inner.count.n) c.iteration.ensures)

pub recursion-returns-in_err-count_one-clause-steps : goal.recursion-returns-in_err-count_one-clause-steps
recursion-returns-in_err-count_one-clause-steps t c =
    let p = err_from_is_err_and c.from_residual.result c.from_residual.ensures.1 in
    let h = c.in_err-count_one.field-0.0 in
    rw (p.1, p.2) (stops (map plain_sub c.args.self.now.list.now) (site_of (map plain_sub c.args.self.now.list.now) c.args.site.now c.args.left) (C.loop c.args.place c.args.name.now (plain_block c.args.body.now).place (plain_block c.args.body.now).list) (written c.args.out.now) h
    (subst (λ (p : Place). Stops h (over_limit true c.args.left c.args.out.now.count.n) p) c.blamed.ensures c.in_err-count_one.ensures.counts))

pub recursion-returns-in_err-inner-clause-steps : goal.recursion-returns-in_err-inner-clause-steps
recursion-returns-in_err-inner-clause-steps t c =
    let p = err_from_is_err_and c.from_residual-in_err-inner.result c.from_residual-in_err-inner.ensures.1 in
    let h = c.in_err-inner.field-0.0 in
    rw (p.1, p.2) (loop_halts (map plain_sub c.args.self.now.list.now) (site_of (map plain_sub c.args.self.now.list.now) c.args.site.now c.args.left) c.args.place c.args.name.now (plain_block c.args.body.now).place (plain_block c.args.body.now).list (written c.args.out.now) (written c.count_one.new.self) h
    c.in_ok-count_one.ensures.counts.0 c.in_ok-count_one.ensures.counts.1
    (subst (λ (l : C.Calls). HaltsAs h (InlinesAll (map plain_sub c.args.self.now.list.now) (site_of (map plain_sub c.args.self.now.list.now) c.args.site.now (c.args.left - 1)) l (block_behind c.count_one.new.self.count.n))) (ap (λ (xs : List CallStatement). calls_of (map plain_statement xs)) c.deref.ensures.value ∙ listed c.args.body.now) c.in_err-inner.ensures.ends))

pub recursion-returns-clause-steps : goal.recursion-returns-clause-steps
recursion-returns-clause-steps t c =
    let inner : Written = record { list = map P.plain_statement c.in_ok-inner.inner.list.items; count = c.in_ok-inner.inner.count.n } in
    loop_gives (map plain_sub c.args.self.now.list.now) (site_of (map plain_sub c.args.self.now.list.now) c.args.site.now c.args.left) c.args.place c.args.name.now (plain_block c.args.body.now).place (plain_block c.args.body.now).list (written c.args.out.now) (written c.count_one.new.self) inner (written c.close.new.self)
    c.in_ok-count_one.ensures.counts.0 c.in_ok-count_one.ensures.counts.1
    (subst (λ (l : C.Calls). InlinesAll (map plain_sub c.args.self.now.list.now) (site_of (map plain_sub c.args.self.now.list.now) c.args.site.now (c.args.left - 1)) l (block_behind c.count_one.new.self.count.n) (Ok inner)) (ap (λ (xs : List CallStatement). calls_of (map plain_statement xs)) c.deref.ensures.value ∙ listed c.args.body.now) c.in_ok-inner.ensures.ends)
    (c.in_ok-close.ensures ∙ ap (λ (s : PlainStatement). closed_with (written c.count_one.new.self) s c.in_ok-inner.inner.count.n) c.named_loop.ensures)

pub choice-returns-in_err-count_one-clause-steps : goal.choice-returns-in_err-count_one-clause-steps
choice-returns-in_err-count_one-clause-steps t c =
    let p = err_from_is_err_and c.from_residual.result c.from_residual.ensures.1 in
    let h = c.in_err-count_one.field-0.0 in
    rw (p.1, p.2) (stops (map plain_sub c.args.self.now.list.now) (site_of (map plain_sub c.args.self.now.list.now) c.args.site.now c.args.left) (C.choice c.args.place c.args.kernel.now c.args.at.now (branches_of (map plain_block c.args.branches.now))) (written c.args.out.now) h
    (subst (λ (p : Place). Stops h (over_limit true c.args.left c.args.out.now.count.n) p) c.blamed.ensures c.in_err-count_one.ensures.counts))

pub choice-returns-in_err-inner-clause-steps : goal.choice-returns-in_err-inner-clause-steps
choice-returns-in_err-inner-clause-steps t c =
    let p = err_from_is_err_and c.from_residual-in_err-inner.result c.from_residual-in_err-inner.ensures.1 in
    let h = c.in_err-inner.field-0.0 in
    rw (p.1, p.2) (choice_halts (map plain_sub c.args.self.now.list.now) (site_of (map plain_sub c.args.self.now.list.now) c.args.site.now c.args.left) c.args.place c.args.kernel.now c.args.at.now (branches_of (map plain_block c.args.branches.now)) (written c.args.out.now) (written c.count_one.new.self) h
    c.in_ok-count_one.ensures.counts.0 c.in_ok-count_one.ensures.counts.1 c.in_err-inner.ensures.ends)

pub choice-returns-clause-steps : goal.choice-returns-clause-steps
choice-returns-clause-steps t c =
    choice_gives (map plain_sub c.args.self.now.list.now) (site_of (map plain_sub c.args.self.now.list.now) c.args.site.now c.args.left) c.args.place c.args.kernel.now c.args.at.now (branches_of (map plain_block c.args.branches.now)) (written c.args.out.now) (written c.count_one.new.self) (record { list = map P.plain_block c.in_ok-inner.inner.list.items; count = c.in_ok-inner.inner.count.n }) (written c.close.new.self)
    c.in_ok-count_one.ensures.counts.0 c.in_ok-count_one.ensures.counts.1 c.in_ok-inner.ensures.ends
    (c.in_ok-close.ensures ∙ ap (λ (s : PlainStatement). closed_with (written c.count_one.new.self) s c.in_ok-inner.inner.count.n) c.offer.ensures)

-- ---- statements without braces

pub step-returns-in-Message-clause-steps : goal.step-returns-in-Message-clause-steps
step-returns-in-Message-clause-steps t c =
    let same : plain_statement c.args.statement.now ≡ C.plain (tree.message c.in-Message.label c.in-Message.payload c.in-Message.from c.in-Message.to) = at_message c.args.statement.now c.in-Message.label c.in-Message.payload c.in-Message.from c.in-Message.to c.in-Message.is in
    added_as c.args.self.now.list.now c.args.left c.add.result (map plain_sub c.args.self.now.list.now) (site_of (map plain_sub c.args.self.now.list.now) c.args.site.now c.args.left) _ (tree.message c.in-Message.label c.in-Message.payload c.in-Message.from c.in-Message.to) (written c.args.out.now) (written c.add.new.out) same
    (subst (λ (s : PlainStatement). Adds c.add.result (over_limit false c.args.left c.args.out.now.count.n) (place_or c.args.site.now.root c.in-Message.label.place) s (written c.args.out.now) (written c.add.new.out)) c.message.ensures c.add.ensures.adds)

pub step-returns-in-Continue-clause-steps : goal.step-returns-in-Continue-clause-steps
step-returns-in-Continue-clause-steps t c =
    let same : plain_statement c.args.statement.now ≡ C.plain (tree.again c.in-Continue.place c.in-Continue.name) = at_again c.args.statement.now c.in-Continue.place c.in-Continue.name c.in-Continue.is in
    added_as c.args.self.now.list.now c.args.left c.add-in-Continue.result (map plain_sub c.args.self.now.list.now) (site_of (map plain_sub c.args.self.now.list.now) c.args.site.now c.args.left) _ (tree.again c.in-Continue.place c.in-Continue.name) (written c.args.out.now) (written c.add-in-Continue.new.out) same
    (subst (λ (s : PlainStatement). Adds c.add-in-Continue.result (over_limit false c.args.left c.args.out.now.count.n) (place_or c.args.site.now.root c.in-Continue.place) s (written c.args.out.now) (written c.add-in-Continue.new.out)) c.again.ensures c.add-in-Continue.ensures.adds)

pub step-returns-in-Compute-clause-steps : goal.step-returns-in-Compute-clause-steps
step-returns-in-Compute-clause-steps t c =
    let same : plain_statement c.args.statement.now ≡ C.plain (tree.compute c.in-Compute.place c.in-Compute.kernel c.in-Compute.at) = at_compute c.args.statement.now c.in-Compute.place c.in-Compute.kernel c.in-Compute.at c.in-Compute.is in
    added_as c.args.self.now.list.now c.args.left c.add-in-Compute.result (map plain_sub c.args.self.now.list.now) (site_of (map plain_sub c.args.self.now.list.now) c.args.site.now c.args.left) _ (tree.compute c.in-Compute.place c.in-Compute.kernel c.in-Compute.at) (written c.args.out.now) (written c.add-in-Compute.new.out) same
    (subst (λ (s : PlainStatement). Adds c.add-in-Compute.result (over_limit false c.args.left c.args.out.now.count.n) (place_or c.args.site.now.root c.in-Compute.place) s (written c.args.out.now) (written c.add-in-Compute.new.out)) c.compute.ensures c.add-in-Compute.ensures.adds)

pub step-returns-in-Barrier-clause-steps : goal.step-returns-in-Barrier-clause-steps
step-returns-in-Barrier-clause-steps t c =
    let same : plain_statement c.args.statement.now ≡ C.plain (tree.barrier c.in-Barrier.place) = at_barrier c.args.statement.now c.in-Barrier.place c.in-Barrier.is in
    added_as c.args.self.now.list.now c.args.left c.add-in-Barrier.result (map plain_sub c.args.self.now.list.now) (site_of (map plain_sub c.args.self.now.list.now) c.args.site.now c.args.left) _ (tree.barrier c.in-Barrier.place) (written c.args.out.now) (written c.add-in-Barrier.new.out) same
    (subst (λ (s : PlainStatement). Adds c.add-in-Barrier.result (over_limit false c.args.left c.args.out.now.count.n) (place_or c.args.site.now.root c.in-Barrier.place) s (written c.args.out.now) (written c.add-in-Barrier.new.out)) c.barrier.ensures c.add-in-Barrier.ensures.adds)

pub step-returns-in-Broadcast-clause-steps : goal.step-returns-in-Broadcast-clause-steps
step-returns-in-Broadcast-clause-steps t c =
    let same : plain_statement c.args.statement.now ≡ C.plain (tree.broadcast c.in-Broadcast.place c.in-Broadcast.label c.in-Broadcast.payload c.in-Broadcast.from) = at_broadcast c.args.statement.now c.in-Broadcast.place c.in-Broadcast.label c.in-Broadcast.payload c.in-Broadcast.from c.in-Broadcast.is in
    added_as c.args.self.now.list.now c.args.left c.add-in-Broadcast.result (map plain_sub c.args.self.now.list.now) (site_of (map plain_sub c.args.self.now.list.now) c.args.site.now c.args.left) _ (tree.broadcast c.in-Broadcast.place c.in-Broadcast.label c.in-Broadcast.payload c.in-Broadcast.from) (written c.args.out.now) (written c.add-in-Broadcast.new.out) same
    (subst (λ (s : PlainStatement). Adds c.add-in-Broadcast.result (over_limit false c.args.left c.args.out.now.count.n) (place_or c.args.site.now.root c.in-Broadcast.place) s (written c.args.out.now) (written c.add-in-Broadcast.new.out)) c.broadcast.ensures c.add-in-Broadcast.ensures.adds)

pub step-returns-in-Reduce-clause-steps : goal.step-returns-in-Reduce-clause-steps
step-returns-in-Reduce-clause-steps t c =
    let same : plain_statement c.args.statement.now ≡ C.plain (tree.reduce c.in-Reduce.place c.in-Reduce.label c.in-Reduce.payload c.in-Reduce.op c.in-Reduce.to) = at_reduce c.args.statement.now c.in-Reduce.place c.in-Reduce.label c.in-Reduce.payload c.in-Reduce.op c.in-Reduce.to c.in-Reduce.is in
    added_as c.args.self.now.list.now c.args.left c.add-in-Reduce.result (map plain_sub c.args.self.now.list.now) (site_of (map plain_sub c.args.self.now.list.now) c.args.site.now c.args.left) _ (tree.reduce c.in-Reduce.place c.in-Reduce.label c.in-Reduce.payload c.in-Reduce.op c.in-Reduce.to) (written c.args.out.now) (written c.add-in-Reduce.new.out) same
    (subst (λ (s : PlainStatement). Adds c.add-in-Reduce.result (over_limit false c.args.left c.args.out.now.count.n) (place_or c.args.site.now.root c.in-Reduce.place) s (written c.args.out.now) (written c.add-in-Reduce.new.out)) c.reduce.ensures c.add-in-Reduce.ensures.adds)

pub step-returns-in-Allreduce-clause-steps : goal.step-returns-in-Allreduce-clause-steps
step-returns-in-Allreduce-clause-steps t c =
    let same : plain_statement c.args.statement.now ≡ C.plain (tree.allreduce c.in-Allreduce.place c.in-Allreduce.label c.in-Allreduce.payload c.in-Allreduce.op) = at_allreduce c.args.statement.now c.in-Allreduce.place c.in-Allreduce.label c.in-Allreduce.payload c.in-Allreduce.op c.in-Allreduce.is in
    added_as c.args.self.now.list.now c.args.left c.add-in-Allreduce.result (map plain_sub c.args.self.now.list.now) (site_of (map plain_sub c.args.self.now.list.now) c.args.site.now c.args.left) _ (tree.allreduce c.in-Allreduce.place c.in-Allreduce.label c.in-Allreduce.payload c.in-Allreduce.op) (written c.args.out.now) (written c.add-in-Allreduce.new.out) same
    (subst (λ (s : PlainStatement). Adds c.add-in-Allreduce.result (over_limit false c.args.left c.args.out.now.count.n) (place_or c.args.site.now.root c.in-Allreduce.place) s (written c.args.out.now) (written c.add-in-Allreduce.new.out)) c.allreduce.ensures c.add-in-Allreduce.ensures.adds)

-- ---- a call

pub run-loop-frame-init : goal.run-loop-frame-init
run-loop-frame-init t c =
    record {
      so_far = λ (o : Outcome) (h : Runs c.args.self.now.list.now c.args.left c.push.new.self.items (written c.args.out.now) o).
          one_call c.args.self.now.list.now c.args.left c.args.first (written c.args.out.now) o (subst (λ (l : List Frame). Runs c.args.self.now.list.now c.args.left l (written c.args.out.now) o) (c.in_ok-push.ensures.items ∙ ap (λ (l : List Frame). l ++ c.args.first ∷ []) c.new-frames.ensures.items) h);
      grows = omega arith;
    }

pub run-loop-frame-preserved-in-Continue-branch-5 : goal.run-loop-frame-preserved-in-Continue-branch-5
run-loop-frame-preserved-in-Continue-branch-5 t c =
    let g : c.loop-frame.out.count.n + 1 ≤ c.advance.new.out.count.n = subst (λ (f : Option Frame). grown_by f c.loop-frame.out.count.n ≤ c.advance.new.out.count.n) c.in-Some-2.is c.in_ok-callee.ensures.grows in
    record {
      so_far = calls_next c.args.self.now.list.now c.args.left c.loop-frame.frames.items c.pop.new.self.items c.push-in-Some-2.new.self.items c.push-in-Some-2-2.new.self.items
          c.in-Some.frame c.advance.new.frame c.in-Some-2.callee (written c.loop-frame.out) (written c.advance.new.out) (λ (o : Outcome). FrameInlines c.args.self.now.list.now c.args.left c.args.first (written c.args.out.now) o)
          c.in-Some.ensures.items c.in_ok-push-2.ensures.items c.in_ok-push-3.ensures.items
          (subst (λ (f : Option Frame). Advances c.args.self.now.list.now c.args.left (Ok f) c.in-Some.frame c.advance.new.frame (written c.loop-frame.out) (written c.advance.new.out)) c.in-Some-2.is c.in_ok-callee.ensures.steps) c.loop-frame.invariant.so_far;
      grows = omega (arith, g, c.loop-frame.invariant.grows);
    }

pub run-loop-frame-preserved : goal.run-loop-frame-preserved
run-loop-frame-preserved t c =
    let g : c.loop-frame.out.count.n ≤ c.advance.new.out.count.n = subst (λ (f : Option Frame). grown_by f c.loop-frame.out.count.n ≤ c.advance.new.out.count.n) c.in_default-2.is c.in_ok-callee.ensures.grows in
    record {
      so_far = call_ends c.args.self.now.list.now c.args.left c.loop-frame.frames.items c.pop.new.self.items
          c.in-Some.frame c.advance.new.frame (written c.loop-frame.out) (written c.advance.new.out) (λ (o : Outcome). FrameInlines c.args.self.now.list.now c.args.left c.args.first (written c.args.out.now) o)
          c.in-Some.ensures.items
          (subst (λ (f : Option Frame). Advances c.args.self.now.list.now c.args.left (Ok f) c.in-Some.frame c.advance.new.frame (written c.loop-frame.out) (written c.advance.new.out)) c.in_default-2.is c.in_ok-callee.ensures.steps) c.loop-frame.invariant.so_far;
      grows = omega (arith, g, c.loop-frame.invariant.grows);
    }

pub run-loop-frame-smaller-in-Continue-branch-5 : goal.run-loop-frame-smaller-in-Continue-branch-5
run-loop-frame-smaller-in-Continue-branch-5 t c =
    let g : c.loop-frame.out.count.n + 1 ≤ c.advance.new.out.count.n = subst (λ (f : Option Frame). grown_by f c.loop-frame.out.count.n ≤ c.advance.new.out.count.n) c.in-Some-2.is c.in_ok-callee.ensures.grows in
    omega (arith, g, c.advance.new.out.count.few, c.in-Some.ensures.len, c.in_ok-push-2.ensures.len, c.in_ok-push-3.ensures.len)

pub run-loop-frame-smaller : goal.run-loop-frame-smaller
run-loop-frame-smaller t c =
    let g : c.loop-frame.out.count.n ≤ c.advance.new.out.count.n = subst (λ (f : Option Frame). grown_by f c.loop-frame.out.count.n ≤ c.advance.new.out.count.n) c.in_default-2.is c.in_ok-callee.ensures.grows in
    omega (arith, g, c.advance.new.out.count.few, c.in-Some.ensures.len)

pub run-returns-in_err-callee-clause-ends : goal.run-returns-in_err-callee-clause-ends
run-returns-in_err-callee-clause-ends t c =
    let p = err_from_is_err_and c.from_residual-in_err-callee.result c.from_residual-in_err-callee.ensures.1 in
    rw (p.1, p.2) (call_halts c.args.self.now.list.now c.args.left c.loop-frame.frames.items c.pop.new.self.items c.in-Some.frame (written c.loop-frame.out) c.in_err-callee.field-0.0 (λ (o : Outcome). FrameInlines c.args.self.now.list.now c.args.left c.args.first (written c.args.out.now) o)
    c.in-Some.ensures.items c.in_err-callee.ensures.steps c.loop-frame.invariant.so_far)

pub run-returns-clause-ends : goal.run-returns-clause-ends
run-returns-clause-ends t c =
    let none : c.pop.new.self.items ≡ [] = subst (λ (n : ℕ). c.pop.new.self.items ≡ take (n - 1) c.loop-frame.frames.items) c.in_default.ensures.cases.0 c.in_default.ensures.rest in
    all_ended c.args.self.now.list.now c.args.left c.loop-frame.frames.items (written c.loop-frame.out) (λ (o : Outcome). FrameInlines c.args.self.now.list.now c.args.left c.args.first (written c.args.out.now) o) (ap (λ (l : List Frame). length l) (c.in_default.ensures.items ∙ ap (λ (l : List Frame). l ++ []) none)) c.loop-frame.invariant.so_far

-- ---- up to the next call

pub advance-returns-in_default-clause-steps : goal.advance-returns-in_default-clause-steps
advance-returns-in_default-clause-steps t c =
    no_statement c.args.self.now.list.now c.args.left c.args.frame.now (written c.args.out.now) (slice_get_past c.args.self.now.list.now c.args.frame.now.body c.in_default.ensures.lookup.3)

pub advance-loop-i-init : goal.advance-loop-i-init
advance-loop-i-init t c =
    let is : slice_get c.args.self.now.list.now c.args.frame.now.body ≡ Some c.in-Some.sub.now = slice_get_read c.args.self.now.list.now (length c.args.self.now.list.now) c.args.frame.now.body c.in-Some.sub.now refl c.in-Some.ensures.lookup.3.0 (c.in-Some.ensures.lookup.3.1 c.in-Some.sub.now) in
    record {
      so_far = λ (o : Outcome) (h : _). at_statement c.args.self.now.list.now c.args.left c.args.frame.now c.in-Some.sub.now (written c.args.out.now) o is h;
      grows = omega arith;
      same = refl;
    }

pub advance-returns-in_err-callee-clause-steps : goal.advance-returns-in_err-callee-clause-steps
advance-returns-in_err-callee-clause-steps t c =
    let p = err_from_is_err_and c.from_residual.result c.from_residual.ensures.1 in
    let h = c.in_err-callee.field-0.0 in
    rw (p.1, p.2) (halts (map plain_sub c.args.self.now.list.now) (site_of (map plain_sub c.args.self.now.list.now) c.args.frame.now.site c.args.left) _ _ (plain_statement c.index.result.now) (written c.loop-i.out) h (λ (o : Outcome). FrameInlines c.args.self.now.list.now c.args.left c.args.frame.now (written c.args.out.now) o) (unrolled c.in-Some.sub.now.body.list.items c.loop-i.i c.index.result.now (omega (arith, c.loop-i-test.true, c.len-i-end.ensures)) c.index.ensures)
    (subst (λ (f : Frame). HaltsAs h (Inlines (map plain_sub c.args.self.now.list.now) (site_of (map plain_sub c.args.self.now.list.now) f.site c.args.left) (plain_statement c.index.result.now) (written c.loop-i.out))) c.loop-i.invariant.same c.in_err-callee.ensures.steps) c.loop-i.invariant.so_far)

pub advance-returns-in-Some-2-clause-steps : goal.advance-returns-in-Some-2-clause-steps
advance-returns-in-Some-2-clause-steps t c =
    let is : slice_get c.args.self.now.list.now c.args.frame.now.body ≡ Some c.in-Some.sub.now = slice_get_read c.args.self.now.list.now (length c.args.self.now.list.now) c.args.frame.now.body c.in-Some.sub.now refl c.in-Some.ensures.lookup.3.0 (c.in-Some.ensures.lookup.3.1 c.in-Some.sub.now) in
    let new : Frame = record { site = c.loop-i.frame.site; body = c.loop-i.frame.body; next = c.loop-i.i + 1 } in
    begins c.args.self.now.list.now c.args.left (site_of (map plain_sub c.args.self.now.list.now) c.args.frame.now.site c.args.left) _ _ (plain_statement c.index.result.now) (written c.loop-i.out) (written c.step.new.out) new c.in-Some-2.callee (λ (o : Outcome). FrameInlines c.args.self.now.list.now c.args.left c.args.frame.now (written c.args.out.now) o) (unrolled c.in-Some.sub.now.body.list.items c.loop-i.i c.index.result.now (omega (arith, c.loop-i-test.true, c.len-i-end.ensures)) c.index.ensures)
    (subst (λ (f : Frame). Steps c.args.self.now.list.now c.args.left (Ok (Some c.in-Some-2.callee)) (written c.step.new.out) (Inlines (map plain_sub c.args.self.now.list.now) (site_of (map plain_sub c.args.self.now.list.now) f.site c.args.left) (plain_statement c.index.result.now) (written c.loop-i.out))) c.loop-i.invariant.same
    (subst (λ (f : Option Frame). Steps c.args.self.now.list.now c.args.left (Ok f) (written c.step.new.out) (Inlines (map plain_sub c.args.self.now.list.now) (site_of (map plain_sub c.args.self.now.list.now) c.loop-i.frame.site c.args.left) (plain_statement c.index.result.now) (written c.loop-i.out))) c.in-Some-2.is c.in_ok-callee.ensures.steps))
    c.loop-i.invariant.so_far
    (λ (v : Written) (o : Outcome) (h : FrameInlines c.args.self.now.list.now c.args.left new v o).
    subst (λ (f : Frame). InlinesAll (map plain_sub c.args.self.now.list.now) (site_of (map plain_sub c.args.self.now.list.now) f.site c.args.left) (calls_of (map plain_statement (drop (c.loop-i.i + 1) c.in-Some.sub.now.body.list.items))) v o) c.loop-i.invariant.same
    (from_frame c.args.self.now.list.now c.args.left new c.in-Some.sub.now v o (subst (λ (f : Frame). slice_get c.args.self.now.list.now f.body ≡ Some c.in-Some.sub.now) (sym c.loop-i.invariant.same) is) h))

pub advance-loop-i-preserved : goal.advance-loop-i-preserved
advance-loop-i-preserved t c =
    let g : c.loop-i.out.count.n ≤ c.step.new.out.count.n = subst (λ (f : Option Frame). grown_by f c.loop-i.out.count.n ≤ c.step.new.out.count.n) c.in_default-2.is c.in_ok-callee.ensures.grows in
    record {
      so_far = goes_on (map plain_sub c.args.self.now.list.now) (site_of (map plain_sub c.args.self.now.list.now) c.args.frame.now.site c.args.left) _ _ (plain_statement c.index.result.now) (written c.loop-i.out) (written c.step.new.out) (λ (o : Outcome). FrameInlines c.args.self.now.list.now c.args.left c.args.frame.now (written c.args.out.now) o) (unrolled c.in-Some.sub.now.body.list.items c.loop-i.i c.index.result.now (omega (arith, c.loop-i-test.true, c.len-i-end.ensures)) c.index.ensures)
          (subst (λ (f : Frame). Inlines (map plain_sub c.args.self.now.list.now) (site_of (map plain_sub c.args.self.now.list.now) f.site c.args.left) (plain_statement c.index.result.now) (written c.loop-i.out) (Ok (written c.step.new.out))) c.loop-i.invariant.same
          (subst (λ (f : Option Frame). Steps c.args.self.now.list.now c.args.left (Ok f) (written c.step.new.out) (Inlines (map plain_sub c.args.self.now.list.now) (site_of (map plain_sub c.args.self.now.list.now) c.loop-i.frame.site c.args.left) (plain_statement c.index.result.now) (written c.loop-i.out))) c.in_default-2.is c.in_ok-callee.ensures.steps))
          c.loop-i.invariant.so_far;
      grows = omega (arith, g, c.loop-i.invariant.grows);
      same = c.loop-i.invariant.same;
    }

pub advance-returns-clause-steps : goal.advance-returns-clause-steps
advance-returns-clause-steps t c =
    all_done (map plain_sub c.args.self.now.list.now) (site_of (map plain_sub c.args.self.now.list.now) c.args.frame.now.site c.args.left) _ c.loop-i.i (written c.loop-i.out) (λ (o : Outcome). FrameInlines c.args.self.now.list.now c.args.left c.args.frame.now (written c.args.out.now) o) (search rules) c.loop-i.invariant.so_far

-- ---- the branches of a choice

pub branches-returns-in_err-inner-clause-ends : goal.branches-returns-in_err-inner-clause-ends
branches-returns-in_err-inner-clause-ends t c =
    let p = err_from_is_err_and c.from_residual.result c.from_residual.ensures.1 in
    let h = c.in_err-inner.field-0.0 in
    rw (p.1, p.2) (branch_halts (map plain_sub c.args.self.now.list.now) (site_of (map plain_sub c.args.self.now.list.now) c.args.site.now c.args.left) _ _ (plain_block c.branch-item.result).place (plain_block c.branch-item.result).list (offered c.loop-branch.offer) h _
    (branches_unrolled c.args.branches.now c.loop-branch.branch-index c.branch-item.result (search rules) c.branch-item.is) (subst (λ (l : C.Calls). HaltsAs h (InlinesAll (map plain_sub c.args.self.now.list.now) (site_of (map plain_sub c.args.self.now.list.now) c.args.site.now c.args.left) l (block_behind c.loop-branch.offer.count.n))) (ap (λ (xs : List CallStatement). calls_of (map plain_statement xs)) c.deref.ensures.value ∙ listed c.branch-item.result) c.in_err-inner.ensures.ends) c.loop-branch.invariant.so_far)

pub branches-loop-branch-preserved : goal.branches-loop-branch-preserved
branches-loop-branch-preserved t c =
    let g : c.loop-branch.offer.count.n ≤ c.in_ok-inner.inner.count.n = c.in_ok-inner.ensures.grows in
    record {
      so_far = branch_goes_on (map plain_sub c.args.self.now.list.now) (site_of (map plain_sub c.args.self.now.list.now) c.args.site.now c.args.left) _ _ (plain_block c.branch-item.result).place (plain_block c.branch-item.result).list (offered c.loop-branch.offer) (offered c.branch-offer.new.self) (written c.in_ok-inner.inner) _
          (branches_unrolled c.args.branches.now c.loop-branch.branch-index c.branch-item.result (search rules) c.branch-item.is) (subst (λ (l : C.Calls). InlinesAll (map plain_sub c.args.self.now.list.now) (site_of (map plain_sub c.args.self.now.list.now) c.args.site.now c.args.left) l (block_behind c.loop-branch.offer.count.n) (Ok (written c.in_ok-inner.inner))) (ap (λ (xs : List CallStatement). calls_of (map plain_statement xs)) c.deref.ensures.value ∙ listed c.branch-item.result) c.in_ok-inner.ensures.ends)
          (c.in_ok-branch.ensures.branch ∙ ap (λ (p : Place). with_branch (offered c.loop-branch.offer) p (written c.in_ok-inner.inner)) (placed c.branch-item.result)) c.loop-branch.invariant.so_far;
      grows = subst (λ (n : Count). c.args.count.n ≤ n.n) (sym c.in_ok-branch.ensures.count) (omega (arith, g, c.loop-branch.invariant.grows));
    }

pub branches-returns-clause-ends : goal.branches-returns-clause-ends
branches-returns-clause-ends t c =
    all_offered (map plain_sub c.args.self.now.list.now) (site_of (map plain_sub c.args.self.now.list.now) c.args.site.now c.args.left) c.args.branches.now c.loop-branch.branch-index (offered c.loop-branch.offer) _ (search rules) c.loop-branch.invariant.so_far
