use Rattle.pb_project_piece.proofs.Segments.{CodesSoFar}
use Rattle.pb_project_piece.proofs.segment.codes.Given as goal

abbrev pub invariant-loop-stmt : goal.invariant-loop-stmt
invariant-loop-stmt l = CodesSoFar l.segment.role l.segment.off l.stmt-items l.stmt-index l.list.items
