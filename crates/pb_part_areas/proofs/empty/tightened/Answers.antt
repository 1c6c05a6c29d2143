use Rattle.pb_part_areas.proofs.Cuts.{tight_from, tight_until}
use Rattle.pb_part_areas.proofs.empty.tightened.Goals as goal

pub returns-then-is_param-2-clause-is : goal.returns-then-is_param-2-clause-is
returns-then-is_param-2-clause-is c = tight_from c.args.a c.since.result _ c.since.ensures.is c.meet-t.ensures.is

pub returns-then-is_param-2-clause-fits : goal.returns-then-is_param-2-clause-fits
returns-then-is_param-2-clause-fits c = λ range cuts f. c.since.ensures.fits range cuts f (c.meet-t.ensures.edge range cuts f.low f.end)

pub returns-else-is_param-2-clause-is : goal.returns-else-is_param-2-clause-is
returns-else-is_param-2-clause-is c = tight_until c.args.a c.until.result _ c.until.ensures.is c.meet-t-else-is_param-2.ensures.is

pub returns-else-is_param-2-clause-fits : goal.returns-else-is_param-2-clause-fits
returns-else-is_param-2-clause-fits c = λ range cuts f. c.until.ensures.fits range cuts f (c.meet-t-else-is_param-2.ensures.edge range cuts f.end f.low)
