use Rattle.pb_project_piece.proofs.Found.{Behind}
use Rattle.pb_project_piece.proofs.seen.some_shared.Given as goal

abbrev pub invariant-loop-b : goal.invariant-loop-b
invariant-loop-b l = Behind l.list l.b-index
