use Rattle.pb_judge_walks.proofs.Blocks.{choices_are_walked}
use Rattle.pb_judge_walks.proofs.laws.choices_are_walked.Goals as goal

pub returns : goal.returns
returns c = choices_are_walked
