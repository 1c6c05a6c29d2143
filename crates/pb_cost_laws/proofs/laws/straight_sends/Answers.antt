use Rattle.pb_cost_laws.proofs.Straight.{straight}
use Rattle.pb_cost_laws.proofs.laws.straight_sends.Goals as goal

pub returns : goal.returns
returns c = straight
