use Rattle.pb_part_visits.proofs.VisitLists.{moving_step, moving_narrow, none_sorted, none_narrow, moving_done}
use Rattle.pb_part_visits.proofs.EndFits.{none_among, moving_among}
use Rattle.pb_part_visits.proofs.visit.moving_in.Goals as goal

pub loop-visit-init : goal.loop-visit-init
loop-visit-init c = record { sorted = none_sorted _ c.new-sorted.ensures.items; among = λ h cuts a. none_among h cuts _ c.new-sorted.ensures.items; narrow = λ h. none_narrow _ c.new-sorted.ensures.items }

pub loop-visit-preserved : goal.loop-visit-preserved
loop-visit-preserved c = record {
  sorted = moving_step c.args.list.now c.loop-visit.visit-index _ _ _ c.loop-visit-test.true c.in_ok-add_moving.ensures c.loop-visit.invariant.sorted;
  among = λ h cuts a. moving_among h cuts c.args.list.now c.loop-visit.visit-index _ _ c.loop-visit-test.true c.in_ok-add_moving.ensures a (c.loop-visit.invariant.among h cuts a);
  narrow = λ h. moving_narrow c.args.list.now c.loop-visit.visit-index _ _ _ c.loop-visit-test.true c.in_ok-add_moving.ensures h (c.loop-visit.invariant.narrow h);
}

pub returns-clause-sorted : goal.returns-clause-sorted
returns-clause-sorted c = moving_done c.args.list.now c.loop-visit.visit-index _ c.loop-visit-test.false c.loop-visit.invariant.sorted
