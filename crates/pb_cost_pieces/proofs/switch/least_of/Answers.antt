use Rattle.pb_cost_pieces.proofs.Switching.{least_turned}
use Rattle.pb_cost_pieces.proofs.switch.least_of.Goals as goal

pub returns : goal.returns
returns c = least_turned c.args.a c.args.b c.below-2.result c.below-2.ensures
