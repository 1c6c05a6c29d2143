use Rattle.std.proofs.Common.{◌≡◌, take, map}
use Rattle.pb_types.specs.Plain.{plain_file}
use Rattle.pb_types_fit.specs.Carries.{carried}
use Rattle.pb_types_fit.proofs.verdict.carried_all.Given as goal

abbrev pub invariant-loop-label : goal.invariant-loop-label
invariant-loop-label l =
    l.list.items ≡ map (carried (plain_file l.file)) (take l.label-index l.label-items)
