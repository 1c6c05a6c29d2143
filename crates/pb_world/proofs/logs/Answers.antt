use Rattle.pb_world.proofs.logs.Goals as goal
use Rattle.pb_world.proofs.Recorded.{log_laws}

pub returns : goal.returns
returns c = log_laws
