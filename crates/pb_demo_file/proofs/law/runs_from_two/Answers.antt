use Rattle.pb_demo_file.proofs.Range.{runs_from_two}
use Rattle.pb_demo_file.proofs.law.runs_from_two.Goals as goal

pub returns : goal.returns
returns c = runs_from_two
