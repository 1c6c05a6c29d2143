use Rattle.pb_do_grammar.proofs.Final.{one_tree}
use Rattle.pb_do_grammar.proofs.one_tree.Goals as goal

pub returns : goal.returns
returns c = one_tree
