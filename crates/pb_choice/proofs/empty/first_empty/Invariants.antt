use Rattle.pb_choice.proofs.EmptySteps.{TriedSoFar}
use Rattle.pb_choice.proofs.empty.first_empty.Given as goal

abbrev pub invariant-loop-area : goal.invariant-loop-area
invariant-loop-area l = TriedSoFar l.range l.list l.area-index l.best
