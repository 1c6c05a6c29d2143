use Rattle.pb_project_piece.proofs.Found.{behind_start, behind_step, shared_found}
use Rattle.pb_project_piece.proofs.seen.some_shared.Goals as goal

pub loop-b-init : goal.loop-b-init
loop-b-init c = behind_start c.args.list.now

pub loop-b-preserved : goal.loop-b-preserved
loop-b-preserved c = behind_step c.args.list.now c.loop-b.b-index c.loop-b-test.true c.loop-b.invariant

pub returns-then-is_some : goal.returns-then-is_some
returns-then-is_some c = shared_found c.args.list.now c.loop-b.b-index c.args.a c.in_ok-here.here c.loop-b-test.true c.loop-b.invariant c.in_ok-here.ensures
