use Rattle.std.proofs.Common.{drop}
use Rattle.pb_choice.proofs.Circles.{RoundsNow, of_items, of_branches}
use Rattle.pb_choice.proofs.round.+round.Given as goal

abbrev pub invariant-block_again-loop-statement : goal.invariant-block_again-loop-statement
invariant-block_again-loop-statement l = RoundsNow l.outer l.opens (of_items l.opens l.statement-items) (of_items l.opens (drop l.statement-index l.statement-items))

abbrev pub invariant-branches_again-loop-branch : goal.invariant-branches_again-loop-branch
invariant-branches_again-loop-branch l = RoundsNow l.outer l.opens (of_branches l.opens l.branches) (of_branches l.opens (drop l.branch-index l.branches))
