use Rattle.std.proofs.Common.{arith}
use Rattle.pb_part_visits.proofs.VisitLists.{prefix_at_most}
use Rattle.pb_part_visits.proofs.visit.place_of.Goals as goal

pub returns-clause-within : goal.returns-clause-within
returns-clause-within c = grind (arith, prefix_at_most)
