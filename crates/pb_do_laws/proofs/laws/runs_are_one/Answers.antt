use Rattle.pb_do_laws.proofs.Carrying.{runs_are_one}
use Rattle.pb_do_laws.proofs.laws.runs_are_one.Goals as goal

pub returns : goal.returns
returns c = runs_are_one
