use Rattle.std.proofs.Common.{◌≡◌, map, drop}
use Rattle.pb_do_faults.specs.Faults.{unknown_among}
use Rattle.pb_do_faults.specs.Found.{first, body_calls}
use Rattle.pb_do_faults.proofs.unknowns.first_unknown.Given as goal

abbrev pub invariant-loop-body : goal.invariant-loop-body
invariant-loop-body l = first (unknown_among (map body_calls (drop l.body-index l.bodies))) ≡ first (unknown_among (map body_calls l.bodies))
