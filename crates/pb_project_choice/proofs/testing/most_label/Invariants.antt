use Rattle.std.proofs.Common.{◌≡◌, ◌≤◌, ℕ, true, false, drop}
use Rattle.pb_project_choice.specs.Found.{has_label}
use Rattle.pb_project_choice.proofs.testing.most_label.Given as goal

abbrev pub invariant-loop-entry : goal.invariant-loop-entry
invariant-loop-entry l = (m : ℕ) → has_label m l.entries ≡ true → has_label m (drop l.entry-index l.entries) ≡ false → m ≤ l.best
