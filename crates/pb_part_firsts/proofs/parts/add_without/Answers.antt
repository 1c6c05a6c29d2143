use Rattle.std.proofs.Common.{◌||◌, ◌&&◌, not, ap, sym, ◌∙◌, subst}
use Rattle.std.specs.List.{All}
use Rattle.std.proofs.lemmas.Result.{IfOk-weaker}
use Rattle.pb_part_areas.specs.Areas.{has, have}
use Rattle.pb_part_areas.specs.Fits.{Fits}
use Rattle.pb_part_firsts.specs.Parts.{flat}
use Rattle.pb_part_firsts.proofs.Flats.{near_is, under_not, none_near, left_whole, pushed_around, pushed_fits}
use Rattle.pb_part_firsts.proofs.parts.add_without.Goals as goal

pub returns-then-is_nobody-clause-rest : goal.returns-then-is_nobody-clause-rest
returns-then-is_nobody-clause-rest c = λ k g n role x.
    left_whole c.args.left.now.items c.push.new.self.items c.args.part c.args.group.now.areas.items c.in_ok-push.ensures.items n role x
    (none_near c.args.part c.args.group.now.areas.items c.in_ok-met.met.items (sym c.deref.ensures.value ∙ c.is_nobody.ensures c.if-is_nobody.true) k n role x (c.in_ok-met.ensures.is g n role x))

pub returns-then-is_nobody-clause-around : goal.returns-then-is_nobody-clause-around
returns-then-is_nobody-clause-around c = λ k h. pushed_around _ _ c.args.part c.in_ok-push.ensures.items h k

pub returns-then-is_nobody-clause-fits : goal.returns-then-is_nobody-clause-fits
returns-then-is_nobody-clause-fits c = λ range cuts h p a. pushed_fits (Fits range cuts) _ _ c.args.part c.in_ok-push.ensures.items h p

pub returns-clause-rest : goal.returns-clause-rest
returns-clause-rest c = IfOk-weaker c.put_all.result _ _ (λ done f k g n role x.
    f n role x ∙ ap (λ z. have (flat c.args.left.now.items) n role x || z)
    (ap (λ z. have z n role x) c.deref-3.ensures.value ∙ c.in_ok-areas.ensures.is n role x ∙ ap (λ z. have c.args.part.areas.items n role x && not (have z n role x)) c.deref-2.ensures.value
    ∙ under_not (have c.args.part.areas.items n role x) (have c.in_ok-met.met.items n role x) (have c.args.group.now.areas.items n role x)
    (near_is (have c.args.part.areas.items n role x) (has c.args.part.around n role x) (have c.in_ok-met.met.items n role x) (have c.args.group.now.areas.items n role x) (k.around n role x) (c.in_ok-met.ensures.is g n role x))))
    c.put_all.ensures.is

pub returns-clause-fits : goal.returns-clause-fits
returns-clause-fits c = IfOk-weaker c.put_all.result _ _ (λ done f range cuts h p a.
    f range cuts h (subst (All (Fits range cuts)) (sym c.deref-3.ensures.value)
    (c.in_ok-areas.ensures.fits range cuts p (subst (All (Fits range cuts)) (sym c.deref-2.ensures.value) (c.in_ok-met.ensures.fits range cuts a)))))
    c.put_all.ensures.fits
