use Rattle.std.proofs.Common.{◌≡◌, ◌++◌, drop}
use Rattle.pb_ctree.specs.Functions.{labels_functions}
use Rattle.pb_ctree.proofs.kernels.push_labels.Given as goal

abbrev pub invariant-loop-label : goal.invariant-loop-label
invariant-loop-label l = l.out.items ++ labels_functions (drop l.label-index l.labels) ≡ l.initial.out.items ++ labels_functions l.labels
