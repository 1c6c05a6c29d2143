use Rattle.std.proofs.Common.{pos, refl, ap, sym, subst, ◌∙◌}
use Rattle.std.specs.List.{All}
use Rattle.pb_core_language.specs.Outcomes.{other_first}
use Rattle.pb_core_flat.specs.Seated.{is_at}
use Rattle.pb_part_areas.specs.Areas.{have}
use Rattle.pb_part_areas.specs.Fits.{Fits}
use Rattle.pb_part_firsts.specs.declared.firsts.Kind.TheVariants.{Other}
use Rattle.pb_part_firsts.proofs.Outcomes.{stopped}
use Rattle.pb_part_firsts.proofs.Singles.{from_zero, end_small, end_over}
use Rattle.pb_part_firsts.proofs.single.run_firsts.Goals as goal

pub returns-clause-gives : goal.returns-clause-gives
returns-clause-gives c = λ range roles h around.
    stopped Other (λ n role x. is_at c.args.at n (pos 0) role x) (λ n role x. other_first)
    (λ n role x w r. ap (λ z. have z n role x) c.deref.ensures.value ∙ c.in_ok-here.ensures.is n role x ∙ c.end_area.ensures.is n role x (from_zero range n w) h)
    (λ n role x w. refl) (c.in_ok-left.ensures.gives roles around)

pub returns-clause-small : goal.returns-clause-small
returns-clause-small c = λ h. c.in_ok-left.ensures.small refl h

pub returns-clause-fits : goal.returns-clause-fits
returns-clause-fits c = λ range cuts rows h a r s.
    let here = c.end_area.ensures.fits range cuts (end_small rows c.args.at h) (end_over rows c.args.at h) a in
    c.in_ok-left.ensures.fits range cuts r (subst (All (Fits range cuts)) (sym c.deref.ensures.value) (c.in_ok-here.ensures.fits range cuts here)) s
