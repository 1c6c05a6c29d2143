use Rattle.std.proofs.Common.{nat_eq}
use Rattle.indexmap.specs.IndexMap.{get}
use Rattle.pb_draw_times.proofs.Ascending.{AreRanked}
use Rattle.pb_draw_times.proofs.checked.ascend_on_ranks.Given as goal

abbrev pub invariant-loop-place : goal.invariant-loop-place
invariant-loop-place l = AreRanked l.entries l.times (λ q. get nat_eq l.last q) l.place
