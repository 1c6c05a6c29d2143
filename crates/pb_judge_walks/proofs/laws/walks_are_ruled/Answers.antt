use Rattle.pb_judge_walks.proofs.Whole.{walks_are_ruled}
use Rattle.pb_judge_walks.proofs.laws.walks_are_ruled.Goals as goal

pub returns : goal.returns
returns c = walks_are_ruled
