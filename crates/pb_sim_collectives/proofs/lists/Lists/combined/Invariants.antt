use Rattle.std.proofs.Common.{◌≡◌, ◌-◌}
use Rattle.pb_local.specs.Collectives.{operation_of, combine, combined}
use Rattle.pb_sim_collectives.specs.Lists.{items_of, words_in}
use Rattle.pb_sim_collectives.proofs.lists.Lists.combined.Given as goal

abbrev pub invariant-loop-rank : goal.invariant-loop-rank
invariant-loop-rank l = l.words.items ≡ combined (combine l.payload (operation_of l.op)) (l.rank - 1) (words_in (items_of l.self) l.k)
