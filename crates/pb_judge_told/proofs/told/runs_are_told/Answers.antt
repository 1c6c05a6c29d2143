use Rattle.pb_judge_told.proofs.Runs as runs
use Rattle.pb_judge_told.proofs.told.runs_are_told.Goals as goal

pub returns : goal.returns
returns c = runs.runs_are_told
