use Rattle.std.proofs.Common.{subst}
use Rattle.pb_part_areas.specs.Fits.{IsEdgeOfIf}
use Rattle.pb_part_areas.proofs.area.ahead.Goals as goal

pub returns-in-Some-clause-fits : goal.returns-in-Some-clause-fits
returns-in-Some-clause-fits c = λ range cuts f e. c.until.ensures.fits range cuts f (subst (λ z. IsEdgeOfIf range cuts z) c.in-Some.is e)
