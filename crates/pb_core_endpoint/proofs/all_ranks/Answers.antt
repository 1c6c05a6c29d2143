use Rattle.pb_core_endpoint.proofs.all_ranks.Goals as goal
use Rattle.pb_core_endpoint.proofs.CoreDone.{core_ranks}

pub returns : goal.returns
returns c = core_ranks
