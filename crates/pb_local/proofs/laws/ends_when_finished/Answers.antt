use Rattle.pb_local.proofs.laws.ends_when_finished.Goals as goal
use Rattle.pb_local.proofs.Moves.{ends_when_finished}

pub returns : goal.returns
returns c = λ p n. ends_when_finished p n
