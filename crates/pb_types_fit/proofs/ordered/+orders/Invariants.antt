use Rattle.std.proofs.Common.{◌≡◌, ◌||◌, drop}
use Rattle.pb_local.specs.Tree.{plain_all}
use Rattle.pb_types_fit.specs.Orders.{orders_all, orders_parts}
use Rattle.pb_types_fit.proofs.Steps.{parts}
use Rattle.pb_types_fit.proofs.ordered.+orders.Given as goal

abbrev pub invariant-orders-loop-stmt : goal.invariant-orders-loop-stmt
invariant-orders-loop-stmt l = (l.found || orders_all l.label (plain_all (drop l.stmt-index l.list))) ≡ orders_all l.label (plain_all l.list)

abbrev pub invariant-orders_at-loop-branch : goal.invariant-orders_at-loop-branch
invariant-orders_at-loop-branch l = (l.found || orders_parts l.label (parts (drop l.branch-index l.branch-items))) ≡ orders_parts l.label (parts l.branch-items)
