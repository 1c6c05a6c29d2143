use Rattle.std.proofs.lemmas.Result.{on_ok_weaker}
use Rattle.pb_part_areas.proofs.pair.minus.Goals as goal

pub returns-then-is_apart-clause-fits : goal.returns-then-is_apart-clause-fits
returns-then-is_apart-clause-fits c = on_ok_weaker c.keep.result (λ d range cuts h fa fb. d range cuts h fa) c.keep.ensures.fits

pub returns-else-is_apart-clause-some : goal.returns-else-is_apart-clause-some
returns-else-is_apart-clause-some c = on_ok_weaker c.cut_out.result (λ d h s. d h) c.cut_out.ensures.some
