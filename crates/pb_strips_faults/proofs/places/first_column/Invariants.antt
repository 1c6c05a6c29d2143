use Rattle.std.proofs.Common.{◌≡◌, drop}
use Rattle.pb_strips_faults.specs.Faults.{column}
use Rattle.pb_strips_faults.specs.Found.{first}
use Rattle.pb_strips_faults.proofs.places.first_column.Given as goal

abbrev pub invariant-loop-end : goal.invariant-loop-end
invariant-loop-end l = first (column l.roles (drop l.end-index l.ends)) ≡ first (column l.roles l.ends)
