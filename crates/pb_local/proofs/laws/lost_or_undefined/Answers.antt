use Rattle.pb_local.proofs.laws.lost_or_undefined.Goals as goal
use Rattle.pb_local.proofs.Moves.{lost_or_undefined}

pub returns : goal.returns
returns c = λ p n. lost_or_undefined p n
