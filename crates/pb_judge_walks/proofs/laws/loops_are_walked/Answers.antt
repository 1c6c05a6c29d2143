use Rattle.pb_judge_walks.proofs.Loops.{loops_are_walked}
use Rattle.pb_judge_walks.proofs.laws.loops_are_walked.Goals as goal

pub returns : goal.returns
returns c = loops_are_walked
