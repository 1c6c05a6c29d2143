use Rattle.pb_project_piece.proofs.Descending.{PutSoFar}
use Rattle.pb_project_piece.proofs.offsets.with_off.Given as goal

abbrev pub invariant-loop-next : goal.invariant-loop-next
invariant-loop-next l = PutSoFar l.one l.list l.next-index l.left l.out.items
