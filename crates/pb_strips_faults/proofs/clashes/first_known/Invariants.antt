use Rattle.std.proofs.Common.{◌≡◌, List, drop}
use Rattle.pb_strips_syntax.specs.declared.tree.StripRole.{StripRole}
use Rattle.pb_strips_faults.specs.Faults.{clash_among}
use Rattle.pb_strips_faults.specs.Found.{first}
use Rattle.pb_strips_faults.specs.Tabled.{IsTableOf}
use Rattle.pb_strips_faults.proofs.clashes.first_known.Given as goal

abbrev pub invariant-loop-spot : goal.invariant-loop-spot
invariant-loop-spot l = (roles : List StripRole) → IsTableOf roles l.table.names → first (clash_among roles (drop l.spot-index l.spots)) ≡ first (clash_among roles l.spots)
