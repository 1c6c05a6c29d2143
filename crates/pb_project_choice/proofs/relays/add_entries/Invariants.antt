use Rattle.std.proofs.Common.{◌≡◌, ◌++◌, drop}
use Rattle.pb_project_choice.proofs.relays.add_entries.Given as goal

abbrev pub invariant-loop-entry : goal.invariant-loop-entry
invariant-loop-entry l = l.list.items ++ drop l.entry-index l.entries ≡ l.initial.list.items ++ l.entries
