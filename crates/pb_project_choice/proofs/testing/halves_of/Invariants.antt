use Rattle.pb_project_choice.proofs.LabelHalves.{Halved}
use Rattle.pb_project_choice.proofs.testing.halves_of.Given as goal

abbrev pub invariant-loop-entry : goal.invariant-loop-entry
invariant-loop-entry l = Halved l.middle l.fn.entries.items l.entry-iterator.rest.items l.halves.low.items l.halves.high.items
