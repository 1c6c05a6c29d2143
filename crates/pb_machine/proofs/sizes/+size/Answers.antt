use Rattle.pb_machine.proofs.Counting.{whole_size}
use Rattle.pb_machine.proofs.sizes.+size.Goals as goal

pub size_at-returns-after-loop-branch : goal.size_at-returns-after-loop-branch
size_at-returns-after-loop-branch t c = λ less.
    whole_size c.args.stmt.now _ _ _ _ _ _ c.deref-branch-items.result.now c.loop-branch.branch-index c.loop-branch.count c.in-Choice.is c.deref-branch-items.ensures.value c.loop-branch.invariant c.loop-branch-test.false less
