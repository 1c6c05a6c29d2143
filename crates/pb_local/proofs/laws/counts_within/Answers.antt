use Rattle.pb_local.proofs.laws.counts_within.Goals as goal
use Rattle.pb_local.proofs.Moves.{counts_within}

pub returns : goal.returns
returns c = λ p n. counts_within p n
