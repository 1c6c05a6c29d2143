use Rattle.std.proofs.Common.{subst}
use Rattle.pb_part_areas.specs.Fits.{IsEdgeOfIf}
use Rattle.pb_part_areas.proofs.area.behind.Goals as goal

pub returns-in-None-clause-fits : goal.returns-in-None-clause-fits
returns-in-None-clause-fits c = λ range cuts f e. c.nowhere.ensures.fits range cuts f

pub returns-in-Some-clause-fits : goal.returns-in-Some-clause-fits
returns-in-Some-clause-fits c = λ range cuts f e. c.since.ensures.fits range cuts f (subst (λ z. IsEdgeOfIf range cuts z) c.in-Some.is e)
