use Rattle.std.proofs.Common.{map, drop, Option}
use Rattle.pb_text.specs.declared.place.Place.{Place}
use Rattle.pb_do_faults.specs.Cycles.{FirstCycleIn}
use Rattle.pb_do_faults.specs.Found.{body_calls}
use Rattle.pb_do_faults.proofs.cycles.first_cycle_in.Given as goal

abbrev pub invariant-loop-call : goal.invariant-loop-call
invariant-loop-call l =
    (found : Option Place) → FirstCycleIn (map body_calls l.bodies) l.i (drop l.call-index l.calls) found → FirstCycleIn (map body_calls l.bodies) l.i l.calls found
