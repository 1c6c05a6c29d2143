use Rattle.pb_judge_walks.proofs.Runs.{runs_are_ruled}
use Rattle.pb_judge_walks.proofs.laws.runs_are_ruled.Goals as goal

pub returns : goal.returns
returns c = runs_are_ruled
