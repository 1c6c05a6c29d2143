use Rattle.pb_project_piece.proofs.Found.{left_start, left_step, left_done}
use Rattle.pb_project_piece.proofs.seen.some_left.Goals as goal

pub loop-b-init : goal.loop-b-init
loop-b-init c = left_start c.args.a c.args.less.now

pub loop-b-preserved : goal.loop-b-preserved
loop-b-preserved c = left_step c.args.a c.loop-b.left c.in-Some.next c.args.less.now c.loop-b.b-index c.in_ok-part.part c.loop-b-test.true c.in_ok-part.ensures c.in-Some.is c.loop-b.invariant

pub returns : goal.returns
returns c = left_done c.args.a c.loop-b.left c.args.less.now c.loop-b.b-index c.loop-b-test.false c.loop-b.invariant
