use Rattle.pb_part_areas.proofs.Parts.{fits_since}
use Rattle.pb_part_areas.proofs.area.since.Goals as goal

pub returns-clause-fits : goal.returns-clause-fits
returns-clause-fits c = λ range cuts f e. fits_since range cuts c.args.a c.later-from.result f (c.later-from.ensures.edge range cuts f.from e)
