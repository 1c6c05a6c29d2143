use Rattle.std.proofs.Common.{◌||◌, ◌&&◌, ap, ap₂, sym, ◌∙◌, subst}
use Rattle.std.specs.List.{All}
use Rattle.std.proofs.lemmas.Result.{IfOk-weaker}
use Rattle.pb_part_areas.specs.Areas.{has, have}
use Rattle.pb_part_areas.specs.Fits.{Fits}
use Rattle.pb_core_flat.specs.OutcomeSets.{outcome_eq}
use Rattle.pb_part_firsts.specs.Firsts.{finds, outcome_of}
use Rattle.pb_part_firsts.specs.Parts.{flat}
use Rattle.pb_part_firsts.proofs.Flats.{near_is, under}
use Rattle.pb_part_firsts.proofs.parts.emit_part.Goals as goal

pub returns-clause-out : goal.returns-clause-out
returns-clause-out c = IfOk-weaker c.emit.result _ _ (λ done f roles k g n role x o.
    let own = c.args.part.now.areas.items in
    let met = c.in_ok-met.met.items in
    let all = flat c.args.groups.now in
    f roles n role x o ∙ ap (λ z. finds roles c.args.out.now.items n role x o || (z && outcome_eq (outcome_of roles c.args.kind n x) o))
    (ap (λ z. have z n role x) c.deref-3.ensures.value ∙ c.in_ok-here.ensures.is n role x
    ∙ ap₂ (λ y z. have y n role x && have z n role x) c.deref.ensures.value c.deref-2.ensures.value
    ∙ under (have own n role x) (have met n role x) (have all n role x)
    (near_is (have own n role x) (has c.args.part.now.around n role x) (have met n role x) (have all n role x) (k.around n role x) (c.in_ok-met.ensures.is g n role x))))
    c.emit.ensures.gives

pub returns-clause-fits : goal.returns-clause-fits
returns-clause-fits c = IfOk-weaker c.emit.result _ _ (λ done f range cuts p g e.
    f range cuts (subst (All (Fits range cuts)) (sym c.deref-3.ensures.value)
    (c.in_ok-here.ensures.fits range cuts (subst (All (Fits range cuts)) (sym c.deref.ensures.value) p) (subst (All (Fits range cuts)) (sym c.deref-2.ensures.value) (c.in_ok-met.ensures.fits range cuts g)))) e)
    c.emit.ensures.fits
