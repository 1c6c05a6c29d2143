use Rattle.std.proofs.Common.{◌≡◌, ◌<◌, ℕ, List, true, slice_index_or}
use Rattle.pb_ctree.specs.Bodies.{is_body}
use Rattle.pb_cli_simulate.proofs.sources.tell_bodies.Given as goal

abbrev pub invariant-loop-body : goal.invariant-loop-body
invariant-loop-body l = (k : ℕ) (other : List ℕ) → k < l.body-index → is_body (slice_index_or l.bodies.list.items k other) ≡ true
