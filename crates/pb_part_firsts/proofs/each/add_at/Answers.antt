use Rattle.std.proofs.Common.{refl, ap, get_or, ◌∙◌}
use Rattle.pb_part_areas.specs.Areas.{at}
use Rattle.pb_core_flat.specs.Stops.{outcome_at}
use Rattle.pb_core_language.specs.Outcomes.{or_then}
use Rattle.pb_part_visits.specs.Visits.{finding_of}
use Rattle.pb_part_visits.proofs.VisitLists.{blank, end_at, finding_at}
use Rattle.pb_part_visits.proofs.EndFits.{among_at}
use Rattle.pb_part_visits.proofs.Meets.{small_of_bound}
use Rattle.pb_part_firsts.specs.Turns.{first_stop}
use Rattle.pb_part_firsts.proofs.EachSteps.{turn_step, turns_done, low_is}
use Rattle.pb_part_firsts.proofs.FixedStops.{at_both, both_some, both_found, both_cut}
use Rattle.pb_part_firsts.proofs.Singles.{from_zero}
use Rattle.pb_part_firsts.proofs.each.add_at.Goals as goal

pub loop-visit-init : goal.loop-visit-init
loop-visit-init c = record { gives = λ range roles m e h k n role x w r. refl; fits = λ range cuts m e h k a b d s. s; small = λ h k. k }

pub loop-visit-preserved : goal.loop-visit-preserved
loop-visit-preserved c = record {
  gives = λ range roles m e h k n role x w r.
      let i = c.loop-visit.visit-index in
      let near = finding_at c.args.visits.now i c.loop-visit-test.true h in
      turn_step roles (at_both roles c.args.end n (at c.args.over.low n) (at c.args.over.high n))
      c.args.visits.now i _ _ _ _ n role x _ (both_some roles c.args.end n (at c.args.over.low n) (at c.args.over.high n) x) c.loop-visit-test.true
      (c.in_ok-add_stop.ensures.adds roles n role x)
      (c.meeting_area-area.ensures.is m e (end_at c.args.visits.now i c.loop-visit-test.true h) k n role x (from_zero range n w))
      (c.kind_of-kind.ensures.is (small_of_bound c.args.over.low k.low) near roles n x ∙ ap (λ z. outcome_at roles n z (finding_of (get_or c.args.visits.now i blank).finding)) (low_is c.args.over n x k))
      (c.loop-visit.invariant.gives range roles m e h k n role x w r);
  fits = λ range cuts m e h k a b d s.
      let i = c.loop-visit.visit-index in
      c.in_ok-add_stop.ensures.fits range cuts
      (c.meeting_area-area.ensures.fits m e (end_at c.args.visits.now i c.loop-visit-test.true h) k range cuts a b (among_at _ cuts c.args.visits.now i c.loop-visit-test.true d))
      (c.loop-visit.invariant.fits range cuts m e h k a b d s);
  small = λ h k. c.in_ok-add_stop.ensures.small (c.kind_of-kind.ensures.small (finding_at c.args.visits.now c.loop-visit.visit-index c.loop-visit-test.true h)) (c.loop-visit.invariant.small h k);
}

pub returns-then-is_same-clause-gives : goal.returns-then-is_same-clause-gives
returns-then-is_same-clause-gives c = λ range roles m e h k. record {
  is = λ n role x w r.
      let i = c.loop-visit.visit-index in
      let low = at c.args.over.low n in
      let high = at c.args.over.high n in
      let near = finding_at c.args.visits.now i c.loop-visit-test.true h in
      let adds = c.in_ok-add_stop.ensures.adds roles n role x in
      let has = c.meeting_area-area.ensures.is m e (end_at c.args.visits.now i c.loop-visit-test.true h) k n role x (from_zero range n w) in
      let finds = c.kind_of-kind.ensures.is (small_of_bound c.args.over.low k.low) near roles n x ∙ ap (λ z. outcome_at roles n z (finding_of (get_or c.args.visits.now i blank).finding)) (low_is c.args.over n x k) in
      both_cut roles c.args.end c.args.visits.now i _ _ _ _ n low high role x _ m (c.is_same.ensures.role c.if-is_same.true) (c.is_same.ensures.at c.if-is_same.true) adds has finds
      (turn_step roles (at_both roles c.args.end n low high) c.args.visits.now i _ _ _ _ n role x _ (both_some roles c.args.end n low high x) c.loop-visit-test.true
      adds has finds (c.loop-visit.invariant.gives range roles m e h k n role x w r))
      ∙ ap (or_then (first_stop roles c.args.stops.now.items n role x)) (both_found roles c.args.end n low high role x c.args.visits.now);
}

pub returns-then-is_same-clause-small : goal.returns-then-is_same-clause-small
returns-then-is_same-clause-small c = λ h k. c.in_ok-add_stop.ensures.small (c.kind_of-kind.ensures.small (finding_at c.args.visits.now c.loop-visit.visit-index c.loop-visit-test.true h)) (c.loop-visit.invariant.small h k)

pub returns-then-is_same-clause-fits : goal.returns-then-is_same-clause-fits
returns-then-is_same-clause-fits c = λ range cuts m e h k a b d s.
    let i = c.loop-visit.visit-index in
    c.in_ok-add_stop.ensures.fits range cuts
    (c.meeting_area-area.ensures.fits m e (end_at c.args.visits.now i c.loop-visit-test.true h) k range cuts a b (among_at _ cuts c.args.visits.now i c.loop-visit-test.true d))
    (c.loop-visit.invariant.fits range cuts m e h k a b d s)

pub returns-clause-gives : goal.returns-clause-gives
returns-clause-gives c = λ range roles m e h k. record {
  is = λ n role x w r.
      let low = at c.args.over.low n in
      let high = at c.args.over.high n in
      turns_done (at_both roles c.args.end n low high) c.args.visits.now c.loop-visit.visit-index _ role x _ c.loop-visit-test.false
      (c.loop-visit.invariant.gives range roles m e h k n role x w r)
      ∙ ap (or_then (first_stop roles c.args.stops.now.items n role x)) (both_found roles c.args.end n low high role x c.args.visits.now);
}

pub returns-clause-small : goal.returns-clause-small
returns-clause-small c = λ h k. c.loop-visit.invariant.small h k

pub returns-clause-fits : goal.returns-clause-fits
returns-clause-fits c = λ range cuts m e h k a b d s. c.loop-visit.invariant.fits range cuts m e h k a b d s
