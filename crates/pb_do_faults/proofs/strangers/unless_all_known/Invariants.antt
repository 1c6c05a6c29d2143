use Rattle.std.proofs.Common.{◌≡◌, drop}
use Rattle.pb_do_faults.specs.Strangers.{all_unless_known}
use Rattle.pb_do_faults.specs.Found.{first}
use Rattle.pb_do_faults.proofs.strangers.unless_all_known.Given as goal

abbrev pub invariant-loop-spot : goal.invariant-loop-spot
invariant-loop-spot l = first (all_unless_known l.known (drop l.spot-index l.spots)) ≡ first (all_unless_known l.known l.spots)
