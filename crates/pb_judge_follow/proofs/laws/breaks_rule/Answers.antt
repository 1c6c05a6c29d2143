use Rattle.pb_judge_follow.proofs.Rules.{breaks_rule}
use Rattle.pb_judge_follow.proofs.laws.breaks_rule.Goals as goal

pub returns : goal.returns
returns c = breaks_rule
