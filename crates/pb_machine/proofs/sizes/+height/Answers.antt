use Rattle.std.proofs.Common.{◌≡◌, ◌<◌, ◌^◌, ◌+◌, arith}
use Rattle.pb_local.specs.Tree.{plain}
use Rattle.pb_machine_next.specs.Heights.{height}
use Rattle.pb_machine.proofs.Counting.{whole_height}
use Rattle.pb_machine.proofs.sizes.+height.Goals as goal

pub height_at-returns-after-loop-branch : goal.height_at-returns-after-loop-branch
height_at-returns-after-loop-branch t c = λ less.
    let most : c.loop-branch.most < 2 ^ 60 = omega (arith, less, c.one_more-in-Choice.ensures.above) in
    let whole : c.loop-branch.most + 1 ≡ height (plain c.args.stmt.now) = whole_height c.args.stmt.now _ _ _ _ _ _ c.deref-branch-items.result.now c.loop-branch.branch-index c.loop-branch.most c.in-Choice.is c.deref-branch-items.ensures.value c.loop-branch.invariant c.loop-branch-test.false most in
    omega (arith, less, whole, c.one_more-in-Choice.ensures.exact)
