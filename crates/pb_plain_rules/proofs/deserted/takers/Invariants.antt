use Rattle.std.proofs.Common.{◌≡◌, false, [], ◌∷◌}
use Rattle.pb_core_language.specs.Flat.{takes_part}
use Rattle.pb_core_language.specs.Lists.{over_below}
use Rattle.pb_plain.specs.Loops.{held_at}
use Rattle.pb_plain.specs.View.{view}
use Rattle.pb_plain_rules.proofs.deserted.takers.Given as goal

abbrev pub invariant-loop-rank : goal.invariant-loop-rank
invariant-loop-rank l = l.table.items ≡ over_below l.rank (λ r. takes_part (false ∷ held_at r l.held) r (view l.body) ∷ [])
