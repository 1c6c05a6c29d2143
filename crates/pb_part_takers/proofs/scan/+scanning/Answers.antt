use Rattle.std.proofs.Common.{ap, sym, ◌∙◌, map}
use Rattle.pb_core_language.specs.Plain.{plain_stmt, block_of}
use Rattle.pb_part_takers.specs.Numbered.{is_within}
use Rattle.pb_core_language.proofs.Plains.{plain_list}
use Rattle.pb_part_takers.proofs.Quiet.{it_later, it_here, it_nowhere, branch_later, branch_here, branch_nowhere}
use Rattle.pb_part_takers.proofs.scan.+scanning.Goals as goal

pub is_within-loop-stmt-preserved : goal.is_within-loop-stmt-preserved
is_within-loop-stmt-preserved t c =
    it_later c.args.number c.deref-stmt-items.result.now c.loop-stmt.stmt-index c.stmt-item.result _ c.loop-stmt-test.true c.stmt-item.is (sym c.is_it.ensures ∙ c.if-is_it.false) c.loop-stmt.invariant

pub is_within-returns-then-is_it : goal.is_within-returns-then-is_it
is_within-returns-then-is_it t c =
    it_here c.args.number c.deref-stmt-items.result.now c.loop-stmt.stmt-index c.stmt-item.result _ c.loop-stmt-test.true c.stmt-item.is (sym c.is_it.ensures ∙ c.if-is_it.true) c.loop-stmt.invariant
    ∙ ap (λ z. is_within c.args.number (block_of (map plain_stmt z))) c.deref-stmt-items.ensures.value ∙ ap (is_within c.args.number) (sym (plain_list c.args.block.now))

pub is_within-returns : goal.is_within-returns
is_within-returns t c =
    it_nowhere c.args.number c.deref-stmt-items.result.now c.loop-stmt.stmt-index _ c.loop-stmt-test.false c.loop-stmt.invariant
    ∙ ap (λ z. is_within c.args.number (block_of (map plain_stmt z))) c.deref-stmt-items.ensures.value ∙ ap (is_within c.args.number) (sym (plain_list c.args.block.now))

pub is_across-loop-branch-preserved : goal.is_across-loop-branch-preserved
is_across-loop-branch-preserved t c =
    branch_later c.args.number c.args.branches.now c.loop-branch.branch-index c.branch-item.result _ c.loop-branch-test.true c.branch-item.is (sym c.is_within.ensures ∙ c.if-is_within.false) c.loop-branch.invariant

pub is_across-returns-then-is_within : goal.is_across-returns-then-is_within
is_across-returns-then-is_within t c =
    branch_here c.args.number c.args.branches.now c.loop-branch.branch-index c.branch-item.result _ c.loop-branch-test.true c.branch-item.is (sym c.is_within.ensures ∙ c.if-is_within.true) c.loop-branch.invariant

pub is_across-returns : goal.is_across-returns
is_across-returns t c = branch_nowhere c.args.number c.args.branches.now c.loop-branch.branch-index _ c.loop-branch-test.false c.loop-branch.invariant
