use Rattle.pb_cread_statements.proofs.Relabelled as Relabelled
use Rattle.pb_cread_statements.proofs.facts.only_one_goes_on.Goals as goal

pub returns : goal.returns
returns c = Relabelled.only_one
