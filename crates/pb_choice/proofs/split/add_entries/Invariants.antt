use Rattle.std.proofs.Common.{◌≡◌, ◌++◌, drop}
use Rattle.pb_choice.proofs.split.add_entries.Given as goal

abbrev pub invariant-loop-entry : goal.invariant-loop-entry
invariant-loop-entry l = l.entries.items ++ drop l.entry-index l.here ≡ l.initial.entries.items ++ l.here
