use Rattle.pb_project_piece.proofs.StillEnds.{ends_start, ends_step, ends_done}
use Rattle.pb_project_piece.proofs.fixed.fixed_ends.Goals as goal

pub loop-stmt-init : goal.loop-stmt-init
loop-stmt-init c = ends_start c.deref-stmt-items.result.now c.new-ends.result.items c.new-ends.ensures.items

pub loop-stmt-preserved : goal.loop-stmt-preserved
loop-stmt-preserved c =
    ends_step c.deref-stmt-items.result.now c.loop-stmt.stmt-index c.stmt-item.result c.loop-stmt.ends.items c.add_ends.new.ends.items
    c.loop-stmt-test.true c.stmt-item.is c.in_ok-add_ends.ensures c.loop-stmt.invariant

pub returns : goal.returns
returns c = ends_done c.args.items.now c.deref-stmt-items.result.now c.loop-stmt.stmt-index c.loop-stmt.ends.items c.deref-stmt-items.ensures.value c.loop-stmt-test.false c.loop-stmt.invariant
