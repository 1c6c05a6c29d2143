use Rattle.pb_part_areas.specs.Joins.{blank}
use Rattle.pb_part_areas.proofs.Clips.{both_true}
use Rattle.pb_part_areas.proofs.clip.within.Goals as goal

pub returns-clause-is : goal.returns-clause-is
returns-clause-is c = λ n role x h. both_true _ _ _ _ _ (c.since.ensures.is n role x) (c.ahead.ensures.is n role x) (c.least_from-from.ensures.is n role x h) (c.last_until-until.ensures.is n role x h)

pub returns-clause-fits : goal.returns-clause-fits
returns-clause-fits c = λ range cuts h f.
    let first = h 0 blank c.requires in
    c.ahead.ensures.fits range cuts (c.since.ensures.fits range cuts f (c.least_from-from.ensures.edge range cuts first.from h)) (c.last_until-until.ensures.edge range cuts first.until h)
