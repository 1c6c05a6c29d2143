use Rattle.pb_project_piece.proofs.StillEnds.{EndsSoFar}
use Rattle.pb_project_piece.proofs.fixed.fixed_ends.Given as goal

abbrev pub invariant-loop-stmt : goal.invariant-loop-stmt
invariant-loop-stmt l = EndsSoFar l.stmt-items l.stmt-index l.ends.items
