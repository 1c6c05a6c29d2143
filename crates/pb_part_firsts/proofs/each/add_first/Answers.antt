use Rattle.std.proofs.Common.{◌+◌, refl, drop, map, ap, sym, subst, ◌∙◌}
use Rattle.pb_part_areas.specs.Areas.{at}
use Rattle.pb_core_language.specs.Outcomes.{or_then}
use Rattle.pb_part_visits.specs.Visits.{visit_of}
use Rattle.pb_part_visits.proofs.VisitLists.{end_at}
use Rattle.pb_part_visits.proofs.EndFits.{among_at}
use Rattle.pb_part_firsts.specs.Firsts.{are_small}
use Rattle.pb_part_firsts.specs.Fitting.{EntriesFit}
use Rattle.pb_part_firsts.specs.Turns.{first_stop}
use Rattle.pb_part_firsts.proofs.FixedStops.{fixed_found, fixed_step, moving_step, fixed_done, fixed_is}
use Rattle.pb_part_firsts.proofs.each.add_first.Goals as goal
use Rattle.pb_part_firsts.proofs.each.add_first.Goals.{then-not-is_moving+in_ok-add_at, else-not-is_moving}

pub loop-visit-init : goal.loop-visit-init
loop-visit-init c = record { gives = λ range roles h k n role x w r. refl; fits = λ range cuts h k e a s. s; small = λ h k. k }

pub loop-visit-preserved : goal.loop-visit-preserved
loop-visit-preserved c =
    let i = c.loop-visit.visit-index in
    let list = c.args.visits.now in
    let all = map visit_of list in
    let lt = c.loop-visit-test.true in
    elim c.if-not-is_moving.branch [
      | then-not-is_moving+in_ok-add_at w ↦
          let stays = sym c.is_moving.ensures ∙ w.if-not-is_moving.true in
          record {
            gives = λ range roles h k n role x d r.
                let low = at c.args.over.low n in
                let high = at c.args.over.high n in
                ap (λ v. or_then (first_stop roles v.items n role x) (fixed_found roles n low high (map visit_of (drop (i + 1) list)) all role x)) w.stops-is
                ∙ fixed_step roles all list i (first_stop roles c.loop-visit.stops.items n role x) (first_stop roles w.add_at.new.stops.items n role x) n low high role x _ lt stays ((w.in_ok-add_at.ensures.gives range roles stays (end_at list i lt h) h k).is n role x d r)
                (c.loop-visit.invariant.gives range roles h k n role x d r);
            fits = λ range cuts h k e a s.
                subst (λ v. EntriesFit range cuts v.items) (sym w.stops-is)
                (w.in_ok-add_at.ensures.fits range cuts stays (end_at list i lt h) h k e (among_at _ cuts list i lt a) a (c.loop-visit.invariant.fits range cuts h k e a s));
            small = λ h k. ap (λ v. are_small v.items) w.stops-is ∙ w.in_ok-add_at.ensures.small h (c.loop-visit.invariant.small h k);
          }
      | else-not-is_moving w ↦
          record {
            gives = λ range roles h k n role x d r.
                let low = at c.args.over.low n in
                let high = at c.args.over.high n in
                ap (λ v. or_then (first_stop roles v.items n role x) (fixed_found roles n low high (map visit_of (drop (i + 1) list)) all role x)) w.stops-is
                ∙ moving_step roles all list i (first_stop roles c.loop-visit.stops.items n role x) n low high role x _ lt (sym c.is_moving.ensures ∙ w.if-not-is_moving.false) (c.loop-visit.invariant.gives range roles h k n role x d r);
            fits = λ range cuts h k e a s. subst (λ v. EntriesFit range cuts v.items) (sym w.stops-is) (c.loop-visit.invariant.fits range cuts h k e a s);
            small = λ h k. ap (λ v. are_small v.items) w.stops-is ∙ c.loop-visit.invariant.small h k;
          }
    ]

pub returns-clause-gives : goal.returns-clause-gives
returns-clause-gives c = λ range roles h k. record {
  is = λ n role x w r.
      let low = at c.args.over.low n in
      let high = at c.args.over.high n in
      fixed_done roles (map visit_of c.args.visits.now) c.args.visits.now c.loop-visit.visit-index _ n low high role x _ c.loop-visit-test.false
      (c.loop-visit.invariant.gives range roles h k n role x w r)
      ∙ ap (or_then (first_stop roles c.args.stops.now.items n role x)) (fixed_is roles n low high role x (map visit_of c.args.visits.now));
}

pub returns-clause-fits : goal.returns-clause-fits
returns-clause-fits c = λ range cuts h k e a s. c.loop-visit.invariant.fits range cuts h k e a s
