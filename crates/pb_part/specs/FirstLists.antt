-- What a list of guards with kinds has to do with the first outcomes of a rank.
use Rattle.std.specs.Prelude.{ℕ, ℤ, pos, Bool, false, ◌&&◌, ◌||◌, List, [], ◌∷◌}
use Rattle.std.specs.List.{All}
use Rattle.pb_affine.specs.Values.{value, hold}
use Rattle.pb_cases.specs.Breakpoints.{Division}
use Rattle.pb_cases.specs.Bounds.{IsAligned}
use Rattle.pb_core_language.specs.declared.protocol.CoreRole.{CoreRole}
use Rattle.pb_core_language.specs.Outcomes.{Outcome, nothing_first, receives, other_first, again_first}
use Rattle.pb_core_flat.specs.Seated.{rank}
use Rattle.pb_core_flat.specs.OutcomeSets.{outcome_eq}
use Rattle.pb_part.specs.declared.kinds.First.{First}
use Rattle.pb_part.specs.declared.kinds.FirstKind.{FirstKind}
use Rattle.pb_part.specs.declared.kinds.FirstKind.TheVariants.{Nothing, Receive, Other, Again}

-- what is found at N = n by the rank with index x
abbrev pub outcome_at : List CoreRole → FirstKind → ℤ → ℤ → Outcome
outcome_at roles Nothing n x = nothing_first
outcome_at roles (Receive s l) n x = receives (rank roles n s.role (value s.at n x)) l
outcome_at roles Other n x = other_first
outcome_at roles Again n x = again_first

-- some First whose guards hold of this rank at N = n has the outcome
abbrev pub answers : List CoreRole → List First → ℤ → ℕ → ℤ → Outcome → Bool
answers roles [] n role x o = false
answers roles (f ∷ fs) n role x o = (hold f.guards n (pos 0) role x && outcome_eq (outcome_at roles f.kind n x) o) || answers roles fs n role x o

-- every guard of every First has cuts for its ends, and numbers N that reach from one edge to another
abbrev pub AreAligned : Division → List First → Type 0
AreAligned d [] = Unit {0}
AreAligned d (f ∷ fs) = All (IsAligned d) f.guards × AreAligned d fs
