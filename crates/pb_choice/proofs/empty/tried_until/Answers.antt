use Rattle.std.proofs.Common.{subst}
use Rattle.pb_choice.specs.Empties.{Tried}
use Rattle.pb_choice.proofs.EmptySteps.{until_none, until_some}
use Rattle.pb_choice.proofs.empty.tried_until.Goals as goal

pub returns-in-None : goal.returns-in-None
returns-in-None c = until_none c.args.range c.args.list.now c.args.until c.args.best c.in-None.is

pub returns-in-Some : goal.returns-in-Some
returns-in-Some c = until_some c.args.range c.args.list.now c.args.until c.in-Some.n c.args.best c.tried.result c.in-Some.is
    (subst (λ z. Tried c.args.range c.args.list.now z c.args.best c.tried.result) c.number.ensures.is c.tried.ensures)
