use Rattle.std.proofs.Common.{◌≡◌, false, ◌∷◌}
use Rattle.pb_core_language.specs.Flat.{takes_part}
use Rattle.pb_core_language.specs.Run.{at_rank}
use Rattle.pb_core_language.specs.Lists.{some_below}
use Rattle.pb_plain.specs.View.{view}
use Rattle.pb_plain_rules.specs.Depth.{env_of}
use Rattle.pb_plain_rules.proofs.deserted.has_taker.Given as goal

abbrev pub invariant-loop-left : goal.invariant-loop-left
invariant-loop-left l = some_below l.left (λ r. takes_part (false ∷ at_rank r (env_of l.held)) r (view l.body)) ≡ some_below l.total (λ r. takes_part (false ∷ at_rank r (env_of l.held)) r (view l.body))

abbrev pub decreases-loop-left : goal.decreases-loop-left
decreases-loop-left l = l.left
