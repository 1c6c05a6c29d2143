use Rattle.pb_choice.proofs.EmptySteps.{both_ends}
use Rattle.pb_choice.proofs.empty.tried_ends.Goals as goal

pub returns : goal.returns
returns c = both_ends c.args.range c.args.list.now c.args.area c.gap.result.n c.args.best c.tried_until-first.result c.tried.result c.gap.ensures.is c.tried_until-first.ensures c.tried.ensures
