use Rattle.pb_local.proofs.laws.keeps_rank.Goals as goal
use Rattle.pb_local.proofs.Moves.{keeps_rank}

pub returns : goal.returns
returns c = λ p n. keeps_rank p n
