use Rattle.pb_cost_laws.proofs.Trees.{block_law}
use Rattle.pb_cost_laws.proofs.laws.block_sends.Goals as goal

pub returns : goal.returns
returns c = block_law
