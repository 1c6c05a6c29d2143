use Rattle.pb_choice.proofs.EmptySteps.{tried_new, tried_old}
use Rattle.pb_choice.proofs.empty.tried.Goals as goal

pub returns-then-is_empty_at : goal.returns-then-is_empty_at
returns-then-is_empty_at c = tried_new c.args.range c.args.list.now c.args.at.n c.args.best c.sooner.result c.is_empty_at.result c.is_empty_at.ensures c.if-is_empty_at.true c.sooner.ensures

pub returns-else-is_empty_at : goal.returns-else-is_empty_at
returns-else-is_empty_at c = tried_old c.args.range c.args.list.now c.args.at.n c.args.best c.is_empty_at.result c.is_empty_at.ensures c.if-is_empty_at.false
