use Rattle.std.proofs.Common.{◌≡◌, length, drop}
use Rattle.pb_do_faults.specs.Search.{with_calls}
use Rattle.pb_do_faults.proofs.reached.Reached.add_calls.Given as goal

abbrev pub invariant-loop-call : goal.invariant-loop-call
invariant-loop-call l = record {
  size : length l.self.seen.items ≡ length l.fn.self.seen.items;
  order : with_calls (length l.self.seen.items) l.self.order.items (drop l.call-index l.calls) ≡ with_calls (length l.fn.self.seen.items) l.fn.self.order.items l.calls;
}
