use Rattle.pb_project_piece.proofs.StillEnds.{Passed}
use Rattle.pb_project_piece.proofs.fixed.has_end.Given as goal

abbrev pub invariant-loop-one : goal.invariant-loop-one
invariant-loop-one l = Passed l.ends l.one-index
