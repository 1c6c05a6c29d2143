use Rattle.pb_cli_laws.proofs.Texts as texts
use Rattle.pb_cli_laws.proofs.laws.one_text_tree.Goals as goal

pub returns : goal.returns
returns c = texts.one_text_tree
