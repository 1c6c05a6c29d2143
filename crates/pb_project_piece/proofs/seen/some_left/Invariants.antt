use Rattle.pb_project_piece.proofs.Found.{LeftSoFar}
use Rattle.pb_project_piece.proofs.seen.some_left.Given as goal

abbrev pub invariant-loop-b : goal.invariant-loop-b
invariant-loop-b l = LeftSoFar l.fn.a l.less l.b-index l.left
