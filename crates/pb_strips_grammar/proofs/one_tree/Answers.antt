use Rattle.pb_strips_grammar.proofs.Final.{one_tree}
use Rattle.pb_strips_grammar.proofs.one_tree.Goals as goal

pub returns : goal.returns
returns c = one_tree
