use Rattle.pb_judge_follow.proofs.Rules.{end_rules}
use Rattle.pb_judge_follow.proofs.laws.end_rules.Goals as goal

pub returns : goal.returns
returns c = end_rules
