use Rattle.std.proofs.Common.{ap, sym, ◌∙◌, subst}
use Rattle.std.specs.List.{All}
use Rattle.std.proofs.lemmas.Result.{IfOk-weaker}
use Rattle.pb_part_areas.specs.Areas.{have}
use Rattle.pb_part_areas.specs.Fits.{Fits}
use Rattle.pb_part_firsts.specs.Parts.{flat, AreAround}
use Rattle.pb_part_firsts.proofs.turns.begun_again.Goals as goal

pub returns-clause-is : goal.returns-clause-is
returns-clause-is c = IfOk-weaker c.begun-2.result _ _ (λ d f n role x.
    ap (λ z. have (flat z) n role x) f ∙ c.in_ok-parts.ensures.is n role x ∙ ap (λ z. have (flat z) n role x) c.deref.ensures.value)
    c.begun-2.ensures.parts

pub returns-clause-around : goal.returns-clause-around
returns-clause-around c = IfOk-weaker c.begun-2.result _ _ (λ d f k. subst AreAround (sym f) c.in_ok-parts.ensures.around) c.begun-2.ensures.parts

pub returns-clause-fits : goal.returns-clause-fits
returns-clause-fits c = IfOk-weaker c.begun-2.result _ _ (λ d f range cuts h.
    subst (λ z. All (Fits range cuts) (flat z)) (sym f) (c.in_ok-parts.ensures.fits range cuts (subst (λ z. All (Fits range cuts) (flat z)) (sym c.deref.ensures.value) h)))
    c.begun-2.ensures.parts
