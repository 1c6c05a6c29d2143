use Rattle.pb_part_areas.proofs.Parts.{fits_until}
use Rattle.pb_part_areas.proofs.area.until.Goals as goal

pub returns-clause-fits : goal.returns-clause-fits
returns-clause-fits c = λ range cuts f e. fits_until range cuts c.args.a c.earlier-end.result f (c.earlier-end.ensures.edge range cuts f.until e)
