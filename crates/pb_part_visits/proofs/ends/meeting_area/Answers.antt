use Rattle.std.proofs.Common.{arith, int_le}
use Rattle.pb_part_areas.specs.Areas.{at}
use Rattle.pb_part_visits.proofs.Meets.{small_off}
use Rattle.pb_part_visits.proofs.EndAreas.{meeting_is, meeting_apart}
use Rattle.pb_part_visits.proofs.EndFits.{staying_cut}
use Rattle.pb_part_visits.proofs.ends.meeting_area.Goals as goal

pub returns-then-end-other-clause-is : goal.returns-then-end-other-clause-is
returns-then-end-other-clause-is c = λ v he ho k n role x p.
    meeting_is c.args.end c.args.other c.first_place.result _ _ (int_le (at c.args.over.low n) (at c.args.over.high n)) n (at c.args.over.low n) role x (omega arith) (c.first_place.ensures.is ho k n)
    (c.staying_area-area.ensures.is he k n role x p) (c.where_same.ensures.is (small_off c.args.end.at.off he) (c.first_place.ensures.small ho) n role x)

pub returns-then-end-other-clause-fits : goal.returns-then-end-other-clause-fits
returns-then-end-other-clause-fits c = λ v he ho k range cuts e a b.
    c.where_same.ensures.fits (small_off c.args.end.at.off he) (c.first_place.ensures.small ho) range cuts (c.staying_area-area.ensures.fits v he k range cuts e a)
    (staying_cut cuts c.args.end c.args.over v he a) (c.first_place.ensures.cut cuts ho k b)

pub returns-else-end-other-clause-is : goal.returns-else-end-other-clause-is
returns-else-end-other-clause-is c = λ v he ho k n role x p.
    meeting_apart c.args.end c.args.other _ (int_le (at c.args.over.low n) (at c.args.over.high n)) n (at c.args.over.low n) role x (λ e. omega arith) (c.nowhere.ensures.is n role x)

pub returns-else-end-other-clause-fits : goal.returns-else-end-other-clause-fits
returns-else-end-other-clause-fits c = λ v he ho k range cuts e a b. c.nowhere.ensures.fits range cuts (c.staying_area-area.ensures.fits v he k range cuts e a)
