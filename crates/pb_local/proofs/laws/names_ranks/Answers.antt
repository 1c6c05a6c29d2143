use Rattle.pb_local.proofs.laws.names_ranks.Goals as goal
use Rattle.pb_local.proofs.Moves.{names_ranks}

pub returns : goal.returns
returns c = names_ranks
