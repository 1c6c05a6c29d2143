-- One loop of a flat protocol.
use Rattle.std.specs.Prelude.{ℕ, Bool, false, ◌&&◌, not, if◌then◌else◌, List, [], ◌∷◌}
use Rattle.pb_core_language.specs.Tree.{Mark}
use Rattle.pb_core_language.specs.Flat.{Block, takes_part}
use Rattle.pb_core_language.specs.Run.{Env, at_rank}
use Rattle.pb_core_language.specs.Lists.{some_below}
use Rattle.pb_core_language.specs.Rules.{holds_again, deserted}

-- its body holds its continue, and no rank takes part
abbrev pub is_lonely : ℕ → Env → Block → Bool
is_lonely T env b = holds_again 0 b && not (some_below T (λ r. takes_part (false ∷ at_rank r env) r b))

-- its mark, where that is so
abbrev pub if_lonely : ℕ → Env → Mark → Block → List Mark
if_lonely T env m b = if is_lonely T env b then m ∷ [] else []

-- the loops of its body that come round with nobody in them
abbrev pub inside : ℕ → Env → Block → List Mark
inside T env b = deserted T ((λ r. takes_part (false ∷ at_rank r env) r b) ∷ env) b
