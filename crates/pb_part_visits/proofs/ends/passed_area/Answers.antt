use Rattle.pb_part_visits.proofs.EndAreas.{passed_is}
use Rattle.pb_part_visits.proofs.EndFits.{passed_fits}
use Rattle.pb_part_visits.proofs.ends.passed_area.Goals as goal

pub returns-clause-is : goal.returns-clause-is
returns-clause-is c = λ h k n role x p.
    passed_is c.args.end c.args.over c.moved.result c.moved-2.result c.next.result n role x h k c.moved.ensures.is c.moved-2.ensures.is c.next.ensures p

pub returns-clause-fits : goal.returns-clause-fits
returns-clause-fits c = λ h k range cuts a. passed_fits range cuts c.args.end c.args.over c.moved.result c.moved-2.result c.next.result h k a c.moved.ensures.is c.moved-2.ensures.is c.next.ensures
