use Rattle.pb_choice_entries.proofs.Closes.{Surrounds}
use Rattle.pb_choice_entries.proofs.close.around.Given as goal

abbrev pub invariant-loop-entry : goal.invariant-loop-entry
invariant-loop-entry l = Surrounds l.all l.here l.entry-index
