use Rattle.std.proofs.Common.{refl, get_or, ap, ◌∙◌}
use Rattle.pb_part_areas.specs.Areas.{at}
use Rattle.pb_core_flat.specs.Stops.{at_some, outcome_at}
use Rattle.pb_part_visits.specs.Visits.{finding_of}
use Rattle.pb_part_firsts.proofs.EachSteps.{turn_step, turns_done, some_some, back_is, back_small}
use Rattle.pb_part_visits.proofs.VisitLists.{blank, end_at, finding_at}
use Rattle.pb_part_visits.proofs.EndFits.{movers_at}
use Rattle.pb_part_firsts.proofs.Outcomes.{emit_small, emit_fits}
use Rattle.pb_part_firsts.proofs.Singles.{from_zero}
use Rattle.pb_part_firsts.proofs.Turning.{stop_pushed}
use Rattle.pb_part_firsts.proofs.each.add_moving.Goals as goal

pub loop-visit-init : goal.loop-visit-init
loop-visit-init c = record { gives = λ range roles q h k n role x w r. refl; fits = λ range cuts h k a b s. s; small = λ h k. k }

pub loop-visit-preserved : goal.loop-visit-preserved
loop-visit-preserved c = record {
  gives = λ range roles q h k n role x w r.
      let small = end_at c.args.visits.now c.loop-visit.visit-index c.loop-visit-test.true h in
      let near = finding_at c.args.visits.now c.loop-visit.visit-index c.loop-visit-test.true h in
      turn_step roles (at_some roles n (at c.args.over.low n) (at c.args.over.high n))
      c.args.visits.now c.loop-visit.visit-index _ _ _ _ n role x _ (some_some roles c.args.over n x) c.loop-visit-test.true
      (stop_pushed roles _ _ c.clipped-area.result c.kind_of-kind.result n role x c.in_ok-push.ensures.items)
      (c.clipped-area.ensures.is n role x (q.is n role x w ∙ r) ∙ c.passed_area.ensures.is small k n role x (from_zero range n w))
      (c.kind_of-kind.ensures.is (back_small (get_or c.args.visits.now c.loop-visit.visit-index blank).end.at c.back.result small c.back.ensures) near roles n x ∙ ap (λ z. outcome_at roles n z (finding_of (get_or c.args.visits.now c.loop-visit.visit-index blank).finding)) (back_is (get_or c.args.visits.now c.loop-visit.visit-index blank).end.at c.back.result n x small c.back.ensures))
      (c.loop-visit.invariant.gives range roles q h k n role x w r);
  fits = λ range cuts h k a b s.
      emit_fits range cuts _ _ c.clipped-area.result c.kind_of-kind.result c.in_ok-push.ensures.items
      (c.clipped-area.ensures.fits range cuts b (c.passed_area.ensures.fits (end_at c.args.visits.now c.loop-visit.visit-index c.loop-visit-test.true h) k range cuts (movers_at _ cuts c.args.visits.now c.loop-visit.visit-index c.loop-visit-test.true a)))
      (c.loop-visit.invariant.fits range cuts h k a b s);
  small = λ h k.
      emit_small _ _ c.clipped-area.result c.kind_of-kind.result c.in_ok-push.ensures.items
      (c.kind_of-kind.ensures.small (finding_at c.args.visits.now c.loop-visit.visit-index c.loop-visit-test.true h)) (c.loop-visit.invariant.small h k);
}

pub returns-clause-gives : goal.returns-clause-gives
returns-clause-gives c = λ range roles q h k. record {
  is = λ n role x w r.
      turns_done (at_some roles n (at c.args.over.low n) (at c.args.over.high n)) c.args.visits.now c.loop-visit.visit-index _ role x _ c.loop-visit-test.false
      (c.loop-visit.invariant.gives range roles q h k n role x w r);
}

pub returns-clause-fits : goal.returns-clause-fits
returns-clause-fits c = λ range cuts h k a b s. c.loop-visit.invariant.fits range cuts h k a b s
