use Rattle.pb_types_fit.proofs.Steps.{whole_orders}
use Rattle.pb_types_fit.proofs.ordered.+orders.Goals as goal

pub orders_at-returns-after-loop-branch : goal.orders_at-returns-after-loop-branch
orders_at-returns-after-loop-branch t c =
    whole_orders c.args.stmt.now _ _ _ _ _ _ c.deref-branch-items.result.now c.loop-branch.branch-index c.args.label c.loop-branch.found c.in-Choice.is c.deref-branch-items.ensures.value c.loop-branch.invariant c.loop-branch-test.false
