use Rattle.std.proofs.Common.{◌≡◌, ◌++◌, map, drop}
use Rattle.pb_core_language.specs.Plain.{plain_stmt, block_of}
use Rattle.pb_core_flat.specs.Stops.{visits}
use Rattle.pb_part_visits.specs.Visits.{visit_of}
use Rattle.pb_part_visits.proofs.visit.visits_in.Given as goal

abbrev pub invariant-loop-stmt : goal.invariant-loop-stmt
invariant-loop-stmt l = map visit_of l.list.items ++ visits (block_of (map plain_stmt (drop l.stmt-index l.stmt-items))) ≡ visits (block_of (map plain_stmt l.stmt-items))
