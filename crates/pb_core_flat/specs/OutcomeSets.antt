-- Lists of outcomes as sets.
use Rattle.std.specs.Prelude.{◌==◌, Bool, true, false, ◌||◌, ◌&&◌, Option, Some, None, List, [], ◌∷◌}
use Rattle.pb_core_language.specs.Outcomes.{Outcome, nothing_first, receives, other_first, again_first}

abbrev pub outcome_eq : Outcome → Outcome → Bool
outcome_eq nothing_first nothing_first = true
outcome_eq (receives s l) (receives t k) = (s == t) && (l == k)
outcome_eq other_first other_first = true
outcome_eq again_first again_first = true
outcome_eq a b = false

abbrev pub is_nothing : Outcome → Bool
is_nothing nothing_first = true
is_nothing (receives s l) = false
is_nothing other_first = false
is_nothing again_first = false

abbrev pub is_outcome : Outcome → List Outcome → Bool
is_outcome o [] = false
is_outcome o (p ∷ ps) = outcome_eq p o || is_outcome o ps

-- the outcome that was found, or Nothing
abbrev pub found : Option Outcome → Outcome
found None = nothing_first
found (Some o) = o
