use Rattle.std.proofs.Common.{◌≡◌, drop}
use Rattle.pb_strips_faults.specs.Faults.{variable}
use Rattle.pb_strips_faults.specs.Found.{first}
use Rattle.pb_strips_faults.proofs.places.first_variable.Given as goal

abbrev pub invariant-loop-end : goal.invariant-loop-end
invariant-loop-end l = first (variable (drop l.end-index l.ends)) ≡ first (variable l.ends)
