use Rattle.pb_part_visits.proofs.VisitLists.{visits_step, visits_done}
use Rattle.pb_part_visits.proofs.visit.visits_in.Goals as goal

pub loop-stmt-preserved : goal.loop-stmt-preserved
loop-stmt-preserved c =
    visits_step c.deref-stmt-items.result.now c.loop-stmt.stmt-index c.stmt-item.result _ _ _ c.loop-stmt-test.true c.stmt-item.is c.in_ok-add_visits.ensures c.loop-stmt.invariant

pub returns : goal.returns
returns c = visits_done c.args.items.now c.deref-stmt-items.result.now c.loop-stmt.stmt-index _ c.deref-stmt-items.ensures.value c.loop-stmt-test.false c.loop-stmt.invariant
