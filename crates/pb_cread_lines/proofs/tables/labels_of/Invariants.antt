use Rattle.std.proofs.Common.{◌≡◌, take, map}
use Rattle.pb_cread_lines.proofs.tables.labels_of.Given as goal

abbrev pub invariant-loop-label : goal.invariant-loop-label
invariant-loop-label l = l.names ≡ take l.label-index (map (λ x. x.name) l.labels)
