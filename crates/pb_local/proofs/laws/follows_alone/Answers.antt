use Rattle.pb_local.proofs.laws.follows_alone.Goals as goal
use Rattle.pb_local.proofs.Moves.{follows_alone}

pub returns : goal.returns
returns c = λ p n r s. follows_alone p n r s
