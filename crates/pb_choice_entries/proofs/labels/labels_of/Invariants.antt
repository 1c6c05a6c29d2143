use Rattle.std.proofs.Common.{◌≡◌, ℕ, false, nat_eq, drop}
use Rattle.indexmap.specs.IndexSet.{contains}
use Rattle.pb_choice_entries.specs.Clashes.{lacks}
use Rattle.pb_choice_entries.proofs.labels.labels_of.Given as goal

abbrev pub invariant-loop-entry : goal.invariant-loop-entry
invariant-loop-entry l = (label : ℕ) → contains nat_eq l.labels label ≡ false → lacks label l.entries ≡ lacks label (drop l.entry-index l.entries)
