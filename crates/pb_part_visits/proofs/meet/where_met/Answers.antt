use Rattle.pb_part_areas.specs.Areas.{at}
use Rattle.pb_part_visits.proofs.Meets.{part_met}
use Rattle.pb_part_visits.proofs.meet.where_met.Goals as goal

pub returns-clause-is : goal.returns-clause-is
returns-clause-is c = λ a b n role x. part_met c.args.a _ _ n (at c.args.fixed n) (at c.args.param n) _ _ role x (c.meet.ensures.is n) (c.pass.ensures.is a b n) (c.since-from.ensures.is n role x) (c.until.ensures.is n role x)

pub returns-clause-fits : goal.returns-clause-fits
returns-clause-fits c = λ a b range cuts f l e. c.until.ensures.fits range cuts (c.since-from.ensures.fits range cuts f (c.meet.ensures.edge range cuts l e)) (c.pass.ensures.edge a b range cuts l e)
