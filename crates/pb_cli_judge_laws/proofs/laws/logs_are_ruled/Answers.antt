use Rattle.pb_cli_judge_laws.proofs.Written as written
use Rattle.pb_cli_judge_laws.proofs.laws.logs_are_ruled.Goals as goal

pub returns : goal.returns
returns c c' = written.logs_are_ruled _
