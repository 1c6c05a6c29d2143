use Rattle.pb_cread_unique.proofs.laws.bodies_as_they_stand.Goals as goal
use Rattle.pb_cread_unique.proofs.Bodied.{as_they_stand}

pub returns : goal.returns
returns c = as_they_stand
