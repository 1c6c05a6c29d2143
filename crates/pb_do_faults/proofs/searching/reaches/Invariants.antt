use Rattle.std.proofs.Common.{◌≡◌, length, map}
use Rattle.pb_do_faults.specs.Found.{body_calls}
use Rattle.pb_do_faults.specs.Search.{Searched}
use Rattle.pb_do_faults.proofs.searching.reaches.Given as goal

abbrev pub invariant-loop-next : goal.invariant-loop-next
invariant-loop-next l = record {
  size : length l.reached.seen.items ≡ length l.bodies;
  so_far : Searched (map body_calls l.bodies) l.from l.to l.reached.order.items l.next;
}
