use Rattle.std.proofs.Common.{ap, sym, ◌∙◌, subst}
use Rattle.std.specs.List.{All}
use Rattle.pb_part_areas.specs.Areas.{have}
use Rattle.pb_part_areas.specs.Fits.{Fits}
use Rattle.pb_part_firsts.proofs.Comes.{stops_as}
use Rattle.pb_part_firsts.proofs.turns.settled.Goals as goal

pub returns-clause-gives : goal.returns-clause-gives
returns-clause-gives c = λ roles k. stops_as (λ n role x. ap (λ z. have z n role x) c.deref.ensures.value ∙ c.in_ok-at.ensures.is n role x) (c.in_ok-left.ensures.gives roles k)

pub returns-clause-fits : goal.returns-clause-fits
returns-clause-fits c = λ range cuts f.
    c.in_ok-left.ensures.fits range cuts f.parts (subst (All (Fits range cuts)) (sym c.deref.ensures.value) (c.in_ok-at.ensures.fits range cuts f.at)) f.entries
