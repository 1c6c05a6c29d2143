use Rattle.std.proofs.Common.{◌≡◌, ◌++◌, drop}
use Rattle.pb_typed.specs.Functions.{labels_functions}
use Rattle.pb_typed_frame.proofs.list.push_labels.Given as goal

abbrev pub invariant-loop-at : goal.invariant-loop-at
invariant-loop-at l = l.out.items ++ labels_functions (drop l.at l.labels) (drop l.at l.types) ≡ l.initial.out.items ++ labels_functions l.labels l.types
