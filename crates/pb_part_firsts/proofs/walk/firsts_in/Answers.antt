use Rattle.std.proofs.Common.{ap, sym, subst, ◌∙◌}
use Rattle.std.specs.List.{All}
use Rattle.pb_part_areas.specs.Areas.{have}
use Rattle.pb_part_areas.specs.Fits.{Fits}
use Rattle.pb_part_firsts.specs.Parts.{flat}
use Rattle.pb_part_firsts.proofs.Outcomes.{given_of}
use Rattle.pb_part_firsts.proofs.walk.firsts_in.Goals as goal

pub returns-clause-gives : goal.returns-clause-gives
returns-clause-gives c = λ range roles rows w h.
    given_of _ (λ n role x. sym (c.in_ok-parts.ensures.is n role x ∙ ap (λ z. have z n role x) c.deref.ensures.value))
    (λ n role x. ap (λ z. have z n role x) (c.in_ok-areas.ensures ∙ ap flat c.deref-2.ensures.value))
    (c.in_ok-left.ensures.gives range roles rows w h c.in_ok-parts.ensures.around)

pub returns-clause-small : goal.returns-clause-small
returns-clause-small c = λ rows h k. c.in_ok-left.ensures.small rows h k

pub returns-clause-fits : goal.returns-clause-fits
returns-clause-fits c = λ range cuts rows h a w d r q.
    let now = c.in_ok-left.ensures.fits range cuts rows h a w d (c.in_ok-parts.ensures.fits range cuts (subst (All (Fits range cuts)) (sym c.deref.ensures.value) r)) q in
    record { areas = subst (All (Fits range cuts)) (sym (c.in_ok-areas.ensures ∙ ap flat c.deref-2.ensures.value)) now.areas; entries = now.entries }
