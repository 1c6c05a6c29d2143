use Rattle.pb_cost.proofs.Unique.{one_list_law}
use Rattle.pb_cost.proofs.laws.one_list_of_pieces.Goals as goal

pub returns : goal.returns
returns c = one_list_law
