use Rattle.std.proofs.lemmas.Result.{on_ok_weaker}
use Rattle.pb_part_areas.proofs.tidy.attach.Goals as goal

pub returns-else-is_empty-clause-fits : goal.returns-else-is_empty-clause-fits
returns-else-is_empty-clause-fits c = on_ok_weaker c.add_next.result (λ d range cuts h f. d range cuts h (c.tightened-part.ensures.fits range cuts f)) c.add_next.ensures.fits

pub returns-else-is_empty-clause-some : goal.returns-else-is_empty-clause-some
returns-else-is_empty-clause-some c = on_ok_weaker c.add_next.result (λ d h. d h (c.is_empty.ensures.some c.if-is_empty.false)) c.add_next.ensures.some
