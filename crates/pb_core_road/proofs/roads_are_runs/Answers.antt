use Rattle.pb_core_road.proofs.roads_are_runs.Goals as goal
use Rattle.pb_core_road.proofs.Runs.{roads_are_runs}
use Rattle.pb_core_road.proofs.Trees.{stmt_passes}
use Rattle.pb_core_road.proofs.Receives.{receives_acts}

pub returns : goal.returns
returns c = roads_are_runs
