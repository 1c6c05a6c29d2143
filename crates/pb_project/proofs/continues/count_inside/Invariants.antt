use Rattle.std.proofs.Common.{◌≡◌, ◌+◌, drop}
use Rattle.pb_core_language.specs.FlatOf.{between}
use Rattle.pb_part_takers.specs.Loops.{ids_of}
use Rattle.pb_project.proofs.continues.count_inside.Given as goal

abbrev pub invariant-loop-i : goal.invariant-loop-i
invariant-loop-i l = l.i + between l.id (ids_of (drop l.i l.held)) ≡ between l.id (ids_of l.held)
