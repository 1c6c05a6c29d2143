use Rattle.pb_world.proofs.all_ranks.Goals as goal
use Rattle.pb_world.proofs.Theorem.{all_ranks}

pub returns : goal.returns
returns g c = all_ranks
