use Rattle.std.proofs.Common.{drop}
use Rattle.pb_choice_entries.proofs.Closes.{Keeps}
use Rattle.pb_choice_entries.proofs.Knowns.{IsNew}
use Rattle.pb_choice_entries.proofs.labels.shared.Given as goal

abbrev pub invariant-loop-entry : goal.invariant-loop-entry
invariant-loop-entry l = Keeps (IsNew l.others) l.here l.out.items (drop l.entry-index l.here)
