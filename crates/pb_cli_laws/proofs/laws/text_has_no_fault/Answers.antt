use Rattle.pb_cli_laws.proofs.Texts as texts
use Rattle.pb_cli_laws.proofs.laws.text_has_no_fault.Goals as goal

pub returns : goal.returns
returns c = texts.text_has_no_fault
