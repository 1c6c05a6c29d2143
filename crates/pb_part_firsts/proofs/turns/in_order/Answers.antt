use Rattle.std.proofs.Common.{ap, sym, ◌∙◌, subst}
use Rattle.std.specs.List.{All}
use Rattle.std.proofs.lemmas.Result.{IfOk-weaker}
use Rattle.pb_part_areas.specs.Areas.{have}
use Rattle.pb_part_areas.specs.Fits.{Fits}
use Rattle.pb_part_firsts.proofs.turns.in_order.Goals as goal

pub returns-clause-is : goal.returns-clause-is
returns-clause-is c = IfOk-weaker c.parts_of.result _ _ (λ v f n role x.
    f n role x ∙ ap (λ z. have z n role x) c.deref.ensures.value ∙ c.in_ok-list.ensures.is n role x ∙ ap (λ z. have z n role x) c.in_ok-areas.ensures)
    c.parts_of.ensures.is

pub returns-clause-fits : goal.returns-clause-fits
returns-clause-fits c = IfOk-weaker c.parts_of.result _ _ (λ v f range cuts h.
    f range cuts (subst (All (Fits range cuts)) (sym c.deref.ensures.value) (c.in_ok-list.ensures.fits range cuts (subst (All (Fits range cuts)) (sym c.in_ok-areas.ensures) h))))
    c.parts_of.ensures.fits
