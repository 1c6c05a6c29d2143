use Rattle.std.proofs.Common.{take}
use Rattle.pb_part_areas.specs.Areas.{have}
use Rattle.pb_part_first.specs.First.{IsBest}
use Rattle.pb_part_first.proofs.first.first_of.Given as goal

abbrev pub invariant-loop-a : goal.invariant-loop-a
invariant-loop-a l = IsBest l.range (λ n role x. have (take l.a-index l.list) n role x) l.best
