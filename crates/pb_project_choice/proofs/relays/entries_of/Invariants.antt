use Rattle.std.proofs.Common.{◌≡◌, ◌++◌, drop}
use Rattle.pb_project_choice.specs.Found.{all_entries}
use Rattle.pb_project_choice.proofs.relays.entries_of.Given as goal

abbrev pub invariant-loop-branch : goal.invariant-loop-branch
invariant-loop-branch l = l.list.items ++ all_entries (drop l.branch-index l.branches) ≡ all_entries l.branches
