use Rattle.std.proofs.Common.{◌≡◌, take, map}
use Rattle.pb_judge_log.proofs.tables.names_of_labels.Given as goal

abbrev pub invariant-loop-label : goal.invariant-loop-label
invariant-loop-label l = l.names ≡ take l.label-index (map (λ x. x.name) l.labels)
