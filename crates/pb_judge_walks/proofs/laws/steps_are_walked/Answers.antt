use Rattle.pb_judge_walks.proofs.Blocks.{steps_are_walked}
use Rattle.pb_judge_walks.proofs.laws.steps_are_walked.Goals as goal

pub returns : goal.returns
returns c = steps_are_walked
