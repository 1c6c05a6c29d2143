use Rattle.pb_world.proofs.runs_begin.Goals as goal
use Rattle.pb_world.proofs.Sequential.{runs_begin}

pub returns : goal.returns
returns g c = runs_begin
