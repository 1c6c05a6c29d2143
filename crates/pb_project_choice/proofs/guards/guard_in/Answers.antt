use Rattle.pb_project_choice.proofs.Saying.{guard_is}
use Rattle.pb_project_choice.proofs.guards.guard_in.Goals as goal

pub returns : goal.returns
returns c = guard_is c.args.range c.args.a c.guard_of-guard.result c.capped-to.result c.guard_of-guard.ensures.is c.guard_of-guard.ensures.aligned c.guard_of-guard.ensures.small c.capped-to.ensures.bound c.capped-to.ensures.same
