use Rattle.std.proofs.Common.{drop}
use Rattle.pb_choice_entries.proofs.Repeats.{KeepsOnce}
use Rattle.pb_choice_entries.proofs.sources.distinct.Given as goal

abbrev pub invariant-loop-entry : goal.invariant-loop-entry
invariant-loop-entry l = KeepsOnce l.entry-items l.out.items (drop l.entry-index l.entry-items)
