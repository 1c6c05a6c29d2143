use Rattle.std.proofs.Common.{◌≡◌, drop}
use Rattle.pb_local.specs.Tree.{plain_all}
use Rattle.pb_machine_next.specs.Place.{block_at}
use Rattle.pb_machine_next.proofs.probe.block.Given as goal

abbrev pub invariant-loop-step : goal.invariant-loop-step
invariant-loop-step l = block_at (plain_all l.inner) (drop l.step-index l.path) ≡ block_at (plain_all l.body) l.path
