use Rattle.std.proofs.Common.{◌≡◌, ◌∙◌, ℕ, Option, Some, map, sym, ap, subst, rules, arith}
use Rattle.std.specs.Vec.{vec_len}
use Rattle.std.proofs.lemmas.Bool.{eqb-true}
use Rattle.std.proofs.lemmas.Result.{err_from_is_err_and}
use Rattle.pb_syntax.specs.Tree.{PlainStatement}
use Rattle.pb_strips_syntax.specs.declared.tree.StripBlock.{out-StripBlock}
use Rattle.pb_strips_syntax.specs.Columns.{numbers}
use Rattle.pb_strips_syntax.specs.Strips.{branches_of}
use Rattle.pb_strips_syntax.specs.Plain.{plain_block, plain_statement}
use Rattle.pb_strips_flatten.specs.Parts.{part_at, part_in, part_among, part_branch, part_for}
use Rattle.pb_strips_flatten.specs.Ends.{written, offered, behind, grown, with_one, Stops}
use Rattle.pb_strips_flatten.proofs.Walking.{goes_on, halts, nothing_more, one_branch, branch_stops, choice_made}
use Rattle.pb_strips_flatten.proofs.Unrolled.{placed, none_of_nothing, unrolled, branches_unrolled, numbers_unrolled}
use Rattle.pb_strips_flatten.proofs.walk.+flat.Goals as goal

-- ---- a block

pub put_block-returns-in_err-put_statement : goal.put_block-returns-in_err-put_statement
put_block-returns-in_err-put_statement t c =
    let p = err_from_is_err_and c.from_residual.result c.from_residual.ensures.1 in
    rw (p.1, p.2) (halts (written c.args.out.now) (part_in (plain_block c.args.block.now).list c.args.round.value) (written c.loop-statement.out) _ (part_at (plain_statement c.statement-item.result) c.args.round.value) _ c.in_err-put_statement.field-0.0
    (unrolled c.deref-statement-items.result.now c.loop-statement.statement-index c.statement-item.result c.args.round.value (search rules) c.statement-item.is) c.in_err-put_statement.ensures c.loop-statement.invariant)

pub put_block-loop-statement-preserved : goal.put_block-loop-statement-preserved
put_block-loop-statement-preserved t c =
    goes_on (written c.args.out.now) (part_in (plain_block c.args.block.now).list c.args.round.value) (written c.loop-statement.out) (written c.put_statement.new.out) _ (part_at (plain_statement c.statement-item.result) c.args.round.value) _
    (unrolled c.deref-statement-items.result.now c.loop-statement.statement-index c.statement-item.result c.args.round.value (search rules) c.statement-item.is) c.in_ok-put_statement.ensures c.put_statement.new.out.count.few c.loop-statement.invariant

-- ---- copies

pub put_columns-returns-then-is_empty : goal.put_columns-returns-then-is_empty
put_columns-returns-then-is_empty t c =
    let list = (out-StripBlock c.args.body.now).list in
    let none : vec_len list ≡ 0 = eqb-true (vec_len list) 0 (sym c.is_empty.ensures ∙ c.if-is_empty.true) in
    nothing_more (written c.args.out.now) (part_for (numbers c.args.low c.args.high) (plain_block c.args.body.now).list)
    (none_of_nothing (numbers c.args.low c.args.high) c.args.body.now (omega (arith, none, list.ok.0)))

pub put_columns-returns-in_err-put_block : goal.put_columns-returns-in_err-put_block
put_columns-returns-in_err-put_block t c =
    let p = err_from_is_err_and c.from_residual.result c.from_residual.ensures.1 in
    let s = c.in_err-put_block.field-0.0 in
    let body = (plain_block c.args.body.now).list in
    rw (p.1, p.2) (halts (written c.args.out.now) (part_for (numbers c.args.low c.args.high) body) (written c.loop-column.out) _ (part_in body (Some c.loop-column.column)) _ s
    (numbers_unrolled c.loop-column.column c.args.high body (omega (arith, c.loop-column-test.true, c.from-column-end.ensures)))
    (subst (λ (v : Option ℕ). Stops s (part_in body v) c.loop-column.out.count.n) c.at.ensures c.in_err-put_block.ensures) c.loop-column.invariant)

pub put_columns-loop-column-preserved : goal.put_columns-loop-column-preserved
put_columns-loop-column-preserved t c =
    let body = (plain_block c.args.body.now).list in
    goes_on (written c.args.out.now) (part_for (numbers c.args.low c.args.high) body) (written c.loop-column.out) (written c.put_block.new.out) _ (part_in body (Some c.loop-column.column)) _
    (numbers_unrolled c.loop-column.column c.args.high body (omega (arith, c.loop-column-test.true, c.from-column-end.ensures)))
    (c.in_ok-put_block.ensures ∙ ap (λ (v : Option ℕ). grown (written c.loop-column.out) (part_in body v)) c.at.ensures) c.put_block.new.out.count.few c.loop-column.invariant

-- ---- branches

pub inner_branches-returns-in_err-inner : goal.inner_branches-returns-in_err-inner
inner_branches-returns-in_err-inner t c =
    let p = err_from_is_err_and c.from_residual.result c.from_residual.ensures.1 in
    let b = plain_block c.branch-item.result in
    rw (p.1, p.2) (halts (behind c.args.count.n) (part_among (branches_of (map plain_block c.args.branches.now)) c.args.round.value) (offered c.loop-branch.offer) _ (part_branch b.place b.list c.args.round.value) _ c.in_err-inner.field-0.0
    (branches_unrolled c.args.branches.now c.loop-branch.branch-index c.branch-item.result c.args.round.value (search rules) c.branch-item.is)
    (branch_stops c.in_err-inner.field-0.0 b.place b.list c.args.round.value c.loop-branch.offer.count.n c.in_err-inner.ensures) c.loop-branch.invariant)

pub inner_branches-loop-branch-preserved : goal.inner_branches-loop-branch-preserved
inner_branches-loop-branch-preserved t c =
    let b = plain_block c.branch-item.result in
    goes_on (behind c.args.count.n) (part_among (branches_of (map plain_block c.args.branches.now)) c.args.round.value) (offered c.loop-branch.offer) (offered c.branch-offer.new.self) _ (part_branch b.place b.list c.args.round.value) _
    (branches_unrolled c.args.branches.now c.loop-branch.branch-index c.branch-item.result c.args.round.value (search rules) c.branch-item.is)
    (one_branch (offered c.loop-branch.offer) (offered c.branch-offer.new.self) (written c.in_ok-inner.inner) _ b.place b.list c.args.round.value (placed c.branch-item.result) c.in_ok-inner.ensures c.in_ok-branch.ensures)
    c.branch-offer.new.self.count.few c.loop-branch.invariant

-- ---- a choice

pub put_choice-returns : goal.put_choice-returns
put_choice-returns t c =
    choice_made (written c.args.out.now) (written c.count_one.new.self) (written c.close.new.self) (offered c.in_ok-inner.inner) c.args.place c.args.kernel.now c.in_ok-at.at c.args.at.now (branches_of (map plain_block c.args.branches.now)) c.args.round.value
    c.in_ok-count_one.ensures.1 c.in_ok-inner.ensures c.in_ok-at.ensures
    (c.in_ok-close.ensures ∙ ap (λ (s : PlainStatement). with_one (written c.count_one.new.self) s c.in_ok-inner.inner.count.n) c.offer.ensures)
