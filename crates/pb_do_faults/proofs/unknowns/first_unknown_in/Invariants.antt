use Rattle.std.proofs.Common.{◌≡◌, drop}
use Rattle.pb_do_faults.specs.Faults.{unknown_in}
use Rattle.pb_do_faults.specs.Found.{first}
use Rattle.pb_do_faults.proofs.unknowns.first_unknown_in.Given as goal

abbrev pub invariant-loop-call : goal.invariant-loop-call
invariant-loop-call l = first (unknown_in (drop l.call-index l.calls)) ≡ first (unknown_in l.calls)
