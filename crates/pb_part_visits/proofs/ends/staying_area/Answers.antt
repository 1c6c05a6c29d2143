use Rattle.std.proofs.Common.{ap, ◌∙◌, ◌&&◌, int_le}
use Rattle.pb_part_areas.specs.Areas.{at}
use Rattle.pb_part_visits.proofs.EndAreas.{staying_is}
use Rattle.pb_part_visits.proofs.EndFits.{staying_fits}
use Rattle.pb_part_visits.proofs.ends.staying_area.Goals as goal

pub returns-clause-is : goal.returns-clause-is
returns-clause-is c = λ h k n role x p.
    staying_is c.args.over c.next.result _ _ n k c.next.ensures (λ a b. c.where_below.ensures.is a b n role x)
    ∙ ap (λ z. z && int_le (at c.args.over.low n) (at c.args.over.high n)) (c.end_area.ensures.is n role x p h)

pub returns-clause-fits : goal.returns-clause-fits
returns-clause-fits c = λ v h k range cuts e a. staying_fits range cuts c.args.end c.args.over c.next.result _ _ v h k e a c.next.ensures (c.end_area.ensures.fits range cuts h) (λ x y. c.where_below.ensures.fits x y range cuts)
