use Rattle.pb_part_areas.proofs.Parts.{fits_low}
use Rattle.pb_part_areas.proofs.Cuts.{low_split, low_split_other}
use Rattle.pb_part_areas.proofs.cut.above.Goals as goal

pub returns-then-is_param-2-clause-is : goal.returns-then-is_param-2-clause-is
returns-then-is_param-2-clause-is c = low_split c.args.a c.since.result c.until.result c.args.cut _ c.since.ensures.is c.until.ensures.is c.meet-t.ensures.is

pub returns-then-is_param-2-clause-fits : goal.returns-then-is_param-2-clause-fits
returns-then-is_param-2-clause-fits c = λ range cuts f k.
    let t = c.meet-t.ensures.edge range cuts f.low k in
    record { first = c.since.ensures.fits range cuts (fits_low range cuts c.args.a c.args.cut f k) t; second = c.until.ensures.fits range cuts f t }

pub returns-else-is_param-2-clause-is : goal.returns-else-is_param-2-clause-is
returns-else-is_param-2-clause-is c = low_split_other c.args.a c.since-else-is_param-2.result c.until-else-is_param-2.result c.args.cut _ c.since-else-is_param-2.ensures.is c.until-else-is_param-2.ensures.is c.meet-t-else-is_param-2.ensures.is

pub returns-else-is_param-2-clause-fits : goal.returns-else-is_param-2-clause-fits
returns-else-is_param-2-clause-fits c = λ range cuts f k.
    let t = c.meet-t-else-is_param-2.ensures.edge range cuts k f.low in
    record { first = c.since-else-is_param-2.ensures.fits range cuts f t; second = c.until-else-is_param-2.ensures.fits range cuts (fits_low range cuts c.args.a c.args.cut f k) t }

pub returns-then-is_param-clause-fits : goal.returns-then-is_param-clause-fits
returns-then-is_param-clause-fits c = λ range cuts f k.
    record { first = fits_low range cuts c.args.a c.higher-low.result f (c.higher-low.ensures.cut cuts f.low k); second = c.nowhere.ensures.fits range cuts f }
