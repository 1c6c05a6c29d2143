use Rattle.pb_part_areas.proofs.Parts.{fits_end}
use Rattle.pb_part_areas.proofs.Cuts.{end_split, end_split_other}
use Rattle.pb_part_areas.proofs.cut.below.Goals as goal

pub returns-then-is_param-2-clause-is : goal.returns-then-is_param-2-clause-is
returns-then-is_param-2-clause-is c = end_split c.args.a c.since.result c.until.result c.args.cut _ c.since.ensures.is c.until.ensures.is c.meet-t.ensures.is

pub returns-then-is_param-2-clause-fits : goal.returns-then-is_param-2-clause-fits
returns-then-is_param-2-clause-fits c = λ range cuts f k.
    let t = c.meet-t.ensures.edge range cuts f.end k in
    record { first = c.since.ensures.fits range cuts f t; second = c.until.ensures.fits range cuts (fits_end range cuts c.args.a c.args.cut f k) t }

pub returns-else-is_param-2-clause-is : goal.returns-else-is_param-2-clause-is
returns-else-is_param-2-clause-is c = end_split_other c.args.a c.since-else-is_param-2.result c.until-else-is_param-2.result c.args.cut _ c.since-else-is_param-2.ensures.is c.until-else-is_param-2.ensures.is c.meet-t-else-is_param-2.ensures.is

pub returns-else-is_param-2-clause-fits : goal.returns-else-is_param-2-clause-fits
returns-else-is_param-2-clause-fits c = λ range cuts f k.
    let t = c.meet-t-else-is_param-2.ensures.edge range cuts k f.end in
    record { first = c.since-else-is_param-2.ensures.fits range cuts (fits_end range cuts c.args.a c.args.cut f k) t; second = c.until-else-is_param-2.ensures.fits range cuts f t }

pub returns-then-is_param-clause-fits : goal.returns-then-is_param-clause-fits
returns-then-is_param-clause-fits c = λ range cuts f k.
    record { first = fits_end range cuts c.args.a c.lower-end.result f (c.lower-end.ensures.cut cuts f.end k); second = c.nowhere.ensures.fits range cuts f }
