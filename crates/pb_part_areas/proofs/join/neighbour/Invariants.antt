use Rattle.pb_part_areas.proofs.Neighbours.{IsAloneBefore}
use Rattle.pb_part_areas.proofs.join.neighbour.Given as goal

abbrev pub invariant-loop-i : goal.invariant-loop-i
invariant-loop-i l = IsAloneBefore l.i l.list l.a
