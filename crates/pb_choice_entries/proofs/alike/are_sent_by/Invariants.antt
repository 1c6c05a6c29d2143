use Rattle.std.proofs.Common.{◌≡◌, drop}
use Rattle.pb_choice_entries.specs.Clashes.{are_sent_by}
use Rattle.pb_choice_entries.proofs.alike.are_sent_by.Given as goal

abbrev pub invariant-loop-entry : goal.invariant-loop-entry
invariant-loop-entry l = are_sent_by l.source l.entries ≡ are_sent_by l.source (drop l.entry-index l.entries)
