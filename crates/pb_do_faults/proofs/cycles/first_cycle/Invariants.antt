use Rattle.std.proofs.Common.{map, drop, Option}
use Rattle.pb_text.specs.declared.place.Place.{Place}
use Rattle.pb_do_faults.specs.Cycles.{FirstCycle, FirstCycleFrom}
use Rattle.pb_do_faults.specs.Found.{body_calls}
use Rattle.pb_do_faults.proofs.cycles.first_cycle.Given as goal

abbrev pub invariant-loop-i : goal.invariant-loop-i
invariant-loop-i l =
    (found : Option Place) → FirstCycleFrom (map body_calls l.bodies) l.i (drop l.i (map body_calls l.bodies)) found → FirstCycle (map body_calls l.bodies) found
