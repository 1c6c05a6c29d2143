use Rattle.std.proofs.Common.{ap, ap₂, sym, subst, ◌∙◌, ◌||◌}
use Rattle.std.specs.List.{All}
use Rattle.std.proofs.lemmas.Result.{on_ok_weaker}
use Rattle.pb_part_areas.specs.Areas.{have}
use Rattle.pb_part_areas.specs.Fits.{Fits}
use Rattle.pb_part_takers.proofs.HeldLoops.{id_here, id_later, id_nowhere, fit_at, or_none}
use Rattle.pb_part_takers.proofs.held.add_held.Goals as goal

pub loop-h-preserved : goal.loop-h-preserved
loop-h-preserved c = record {
  same = c.loop-h.invariant.same;
  holds = λ n role x. sym (id_later c.args.held.now c.loop-h.h-index c.args.id c.h-item.result n role x c.loop-h-test.true c.h-item.is c.if-id-h.false) ∙ c.loop-h.invariant.holds n role x;
}

pub returns-then-id-h-clause-is : goal.returns-then-id-h-clause-is
returns-then-id-h-clause-is c = on_ok_weaker c.gather_held.result (λ d n role x.
    d n role x
    ∙ ap₂ (λ y z. have y n role x || z) c.loop-h.invariant.same
    (ap (λ z. have z n role x) (c.deref-then-id-h.ensures.value ∙ ap (λ v. v.items) c.deref.ensures) ∙ sym (id_here c.args.held.now c.loop-h.h-index c.args.id c.h-item.result n role x c.loop-h-test.true c.h-item.is c.if-id-h.true) ∙ c.loop-h.invariant.holds n role x)) c.gather_held.ensures.is

pub returns-then-id-h-clause-fits : goal.returns-then-id-h-clause-fits
returns-then-id-h-clause-fits c = on_ok_weaker c.gather_held.result (λ d range cuts f g.
    d range cuts (subst (All (Fits range cuts)) (sym c.loop-h.invariant.same) f)
    (subst (All (Fits range cuts)) (sym (c.deref-then-id-h.ensures.value ∙ ap (λ v. v.items) c.deref.ensures)) (fit_at range cuts c.args.held.now c.loop-h.h-index c.h-item.result c.loop-h-test.true c.h-item.is g))) c.gather_held.ensures.fits

pub returns-clause-is : goal.returns-clause-is
returns-clause-is c = λ n role x.
    ap (λ y. have y n role x) c.loop-h.invariant.same
    ∙ or_none (have c.args.out.now.items n role x) _ (sym (c.loop-h.invariant.holds n role x) ∙ id_nowhere c.args.held.now c.loop-h.h-index c.args.id n role x c.loop-h-test.false)

pub returns-clause-fits : goal.returns-clause-fits
returns-clause-fits c = λ range cuts f g. subst (All (Fits range cuts)) (sym c.loop-h.invariant.same) f
