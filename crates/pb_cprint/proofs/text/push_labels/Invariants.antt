use Rattle.std.proofs.Common.{◌≡◌, ◌++◌, drop}
use Rattle.pb_cprint.specs.Framed.{labels_written}
use Rattle.pb_cprint.proofs.text.push_labels.Given as goal

abbrev pub invariant-loop-label : goal.invariant-loop-label
invariant-loop-label l = l.out.items ++ labels_written (drop l.label-index l.labels) ≡ l.initial.out.items ++ labels_written l.labels
