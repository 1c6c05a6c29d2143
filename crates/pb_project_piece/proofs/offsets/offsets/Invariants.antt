use Rattle.pb_core_language.specs.declared.tree.CoreBlock.{out-CoreBlock}
use Rattle.pb_project_piece.proofs.Descending.{OffsSoFar}
use Rattle.pb_project_piece.proofs.offsets.offsets.Given as goal

abbrev pub invariant-loop-left : goal.invariant-loop-left
invariant-loop-left l = OffsSoFar l.role (out-CoreBlock l.items).list.items l.left l.list.items

abbrev pub decreases-loop-left : goal.decreases-loop-left
decreases-loop-left l = l.left
