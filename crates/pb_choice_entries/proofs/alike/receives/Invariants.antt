use Rattle.std.proofs.Common.{drop}
use Rattle.pb_choice_entries.proofs.Closes.{Keeps, IsOther}
use Rattle.pb_choice_entries.proofs.alike.receives.Given as goal

abbrev pub invariant-loop-entry : goal.invariant-loop-entry
invariant-loop-entry l = Keeps IsOther l.entries l.out.items (drop l.entry-index l.entries)
