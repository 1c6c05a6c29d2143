use Rattle.std.proofs.Common.{map, refl}
use Rattle.pb_syntax.specs.Plain.{plain_statement, plain_block}
use Rattle.pb_syntax.specs.Tree.{statements_of, branches_of}
use Rattle.pb_core_language.specs.Meaning.{kernels_at, kernels_in, kernels_among}
use Rattle.pb_core_file_rules.proofs.Loops.{adds, added}
use Rattle.pb_core_file_rules.proofs.Noting.{kernel_then}
use Rattle.pb_core_file_rules.proofs.Plains.{plain_foreach, plain_loop, plain_choice, plain_compute}
use Rattle.pb_core_file_rules.proofs.kernels.+kernels.Goals as goal

pub add_kernels_in-loop-statement-preserved : goal.add_kernels_in-loop-statement-preserved
add_kernels_in-loop-statement-preserved t c =
    adds (λ ss. kernels_in (statements_of (map plain_statement ss))) c.deref-statement-items.result.now c.loop-statement.statement-index c.statement-item.result (kernels_at (plain_statement c.statement-item.result)) c.loop-statement.out.items c.add_kernels_at.new.out.items _ c.loop-statement-test.true c.statement-item.is refl c.in_ok-add_kernels_at.ensures c.loop-statement.invariant

pub add_kernels_in-returns : goal.add_kernels_in-returns
add_kernels_in-returns t c =
    added (λ ss. kernels_in (statements_of (map plain_statement ss))) c.deref-statement-items.result.now c.loop-statement.statement-index c.loop-statement.out.items _ refl c.loop-statement-test.false c.loop-statement.invariant

pub add_kernels_among-loop-branch-preserved : goal.add_kernels_among-loop-branch-preserved
add_kernels_among-loop-branch-preserved t c =
    adds (λ bs. kernels_among (branches_of (map plain_block bs))) c.args.branches.now c.loop-branch.branch-index c.branch-item.result (kernels_in (plain_block c.branch-item.result).list) c.loop-branch.out.items c.add_kernels_in.new.out.items _ c.loop-branch-test.true c.branch-item.is refl c.in_ok-add_kernels_in.ensures c.loop-branch.invariant

pub add_kernels_among-returns : goal.add_kernels_among-returns
add_kernels_among-returns t c =
    added (λ bs. kernels_among (branches_of (map plain_block bs))) c.args.branches.now c.loop-branch.branch-index c.loop-branch.out.items _ refl c.loop-branch-test.false c.loop-branch.invariant

pub add_kernels_at-returns-in_ok-push_kernel-in-Choice : goal.add_kernels_at-returns-in_ok-push_kernel-in-Choice
add_kernels_at-returns-in_ok-push_kernel-in-Choice t c =
    let among = rw c.deref.ensures.value at c.add_kernels_among.ensures in
    rw (plain_choice c.args.statement.now _ _ _ _ c.in-Choice.is) (kernel_then c.add_kernels_among.result _ (kernels_among (branches_of (map plain_block c.in-Choice.branches.items))) _ _ _ c.in_ok-push_kernel-in-Choice.ensures among)

pub add_kernels_at-returns-in-Compute : goal.add_kernels_at-returns-in-Compute
add_kernels_at-returns-in-Compute t c = rw (plain_compute c.args.statement.now _ _ _ c.in-Compute.is) c.push_kernel-in-Compute.ensures

pub add_kernels_at-returns-in-Foreach : goal.add_kernels_at-returns-in-Foreach
add_kernels_at-returns-in-Foreach t c = rw (plain_foreach c.args.statement.now _ _ _ _ c.in-Foreach.is) c.add_kernels_in.ensures

pub add_kernels_at-returns-in-Rec : goal.add_kernels_at-returns-in-Rec
add_kernels_at-returns-in-Rec t c = rw (plain_loop c.args.statement.now _ _ _ c.in-Rec.is) c.add_kernels_in-in-Rec.ensures
