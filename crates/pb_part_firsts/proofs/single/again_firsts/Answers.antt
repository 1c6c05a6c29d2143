use Rattle.std.proofs.Common.{refl, ap, sym, subst, ◌∙◌}
use Rattle.std.specs.List.{All}
use Rattle.pb_part_areas.specs.Fits.{Fits}
use Rattle.pb_part_areas.specs.Areas.{have}
use Rattle.pb_part_firsts.proofs.Singles.{again_some, again_none}
use Rattle.pb_part_firsts.proofs.single.again_firsts.Goals as goal

pub returns-in_ok-left-in-Some-clause-gives : goal.returns-in_ok-left-in-Some-clause-gives
returns-in_ok-left-in-Some-clause-gives c = λ range roles m around.
    again_some c.args.held.now m c.args.id (λ n role x. ap (λ z. have z n role x) (c.deref-in-Some.ensures.value ∙ ap (λ v. v.items) c.deref.ensures) ∙ c.in-Some.ensures.is n role x) (c.in_ok-left-in-Some.ensures.gives roles around)

pub returns-in_ok-left-in-Some-clause-small : goal.returns-in_ok-left-in-Some-clause-small
returns-in_ok-left-in-Some-clause-small c = λ h. c.in_ok-left-in-Some.ensures.small refl h

pub returns-in-None-clause-gives : goal.returns-in-None-clause-gives
returns-in-None-clause-gives c = λ range roles m around. again_none c.args.held.now m c.args.id c.in-None.ensures.is

pub returns-in_ok-left-in-Some-clause-fits : goal.returns-in_ok-left-in-Some-clause-fits
returns-in_ok-left-in-Some-clause-fits c = λ range cuts h r s.
    c.in_ok-left-in-Some.ensures.fits range cuts r (subst (All (Fits range cuts)) (sym (c.deref-in-Some.ensures.value ∙ ap (λ v. v.items) c.deref.ensures)) (c.in-Some.ensures.fits range cuts h)) s

pub returns-in-None-clause-fits : goal.returns-in-None-clause-fits
returns-in-None-clause-fits c = λ range cuts h r s. record { areas = r; entries = s }
