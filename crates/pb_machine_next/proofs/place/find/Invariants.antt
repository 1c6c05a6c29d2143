use Rattle.std.proofs.Common.{◌≡◌, drop}
use Rattle.pb_local.specs.Tree.{plain_all}
use Rattle.pb_machine_next.specs.Place.{found, nowhere}
use Rattle.pb_machine_next.specs.Shown.{found_in}
use Rattle.pb_machine_next.proofs.place.find.Given as goal

abbrev pub invariant-loop-step : goal.invariant-loop-step
invariant-loop-step l = record {
  depth : l.depth ≡ l.step-index;
  done : found (plain_all l.inner) (drop l.step-index l.path) l.step-index l.at (found_in l.best) ≡ found (plain_all l.body) l.path 0 l.at nowhere;
}
