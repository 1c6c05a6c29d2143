use Rattle.pb_judge_follow.proofs.Circling.{circle_rules}
use Rattle.pb_judge_follow.proofs.laws.circle_rules.Goals as goal

pub returns : goal.returns
returns c = circle_rules
