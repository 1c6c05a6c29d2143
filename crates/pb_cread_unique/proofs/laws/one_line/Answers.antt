use Rattle.pb_cread_unique.proofs.laws.one_line.Goals as goal
use Rattle.pb_cread_unique.proofs.Only.{one_item}

pub returns : goal.returns
returns c = one_item
