use Rattle.pb_cost_pieces.proofs.Switching.{most_turned}
use Rattle.pb_cost_pieces.proofs.switch.most_of.Goals as goal

pub returns : goal.returns
returns c = most_turned c.args.a c.args.b c.above-2.result c.above-2.ensures
