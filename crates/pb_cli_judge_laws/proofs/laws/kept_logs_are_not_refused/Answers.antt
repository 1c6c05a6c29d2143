use Rattle.pb_cli_judge_laws.proofs.Written as written
use Rattle.pb_cli_judge_laws.proofs.laws.kept_logs_are_not_refused.Goals as goal

pub returns : goal.returns
returns c = written.kept_logs_are_not_refused
