use Rattle.std.proofs.Common.{◌≡◌, drop, None}
use Rattle.pb_local.specs.Tree.{plain_all}
use Rattle.pb_machine_next.specs.Place.{looped}
use Rattle.pb_machine_next.proofs.place.find_loop.Given as goal

abbrev pub invariant-loop-step : goal.invariant-loop-step
invariant-loop-step l = record {
  depth : l.depth ≡ l.step-index;
  done : looped (plain_all l.inner) (drop l.step-index l.path) l.id l.step-index l.best ≡ looped (plain_all l.body) l.path l.id 0 None;
}
