use Rattle.std.proofs.Common.{◌≡◌, drop}
use Rattle.pb_types_fit.specs.Faults.{number_from}
use Rattle.pb_types_fit.proofs.labels.number_of.Given as goal

abbrev pub invariant-loop-n : goal.invariant-loop-n
invariant-loop-n l =
    number_from l.n (drop l.n l.labels) l.name ≡ number_from 0 l.labels l.name
