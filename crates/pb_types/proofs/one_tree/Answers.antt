use Rattle.pb_types.proofs.Final.{one_tree}
use Rattle.pb_types.proofs.one_tree.Goals as goal

pub returns : goal.returns
returns c = one_tree
