use Rattle.pb_project_piece.proofs.Segments.{codes_start, codes_step, codes_done}
use Rattle.pb_project_piece.proofs.segment.codes.Goals as goal

pub loop-stmt-init : goal.loop-stmt-init
loop-stmt-init c =
    codes_start c.args.segment.role c.args.segment.off c.deref-stmt-items.result.now c.own.result c.new-list.result.items c.push.new.self.items c.new-list.ensures.items c.in_ok-push.ensures.items c.own.ensures.exact c.own.ensures.simple

pub loop-stmt-preserved : goal.loop-stmt-preserved
loop-stmt-preserved c =
    codes_step c.args.segment.role c.args.segment.off c.deref-stmt-items.result.now c.loop-stmt.stmt-index c.stmt-item.result c.loop-stmt.list.items c.put_item.new.out.items
    c.loop-stmt-test.true c.stmt-item.is c.in_ok-put_item.ensures c.loop-stmt.invariant

pub returns : goal.returns
returns c =
    codes_done c.args.segment.role c.args.segment.off c.args.items.now c.deref-stmt-items.result.now c.loop-stmt.stmt-index c.loop-stmt.list.items c.deref-stmt-items.ensures.value c.loop-stmt-test.false c.loop-stmt.invariant
