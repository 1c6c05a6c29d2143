use Rattle.pb_world.proofs.receives_are_sends.Goals as goal
use Rattle.pb_world.proofs.Sequential.{matched}

pub returns : goal.returns
returns g c = matched
