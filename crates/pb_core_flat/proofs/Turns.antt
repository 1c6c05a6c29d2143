-- One stop after the other.
use Rattle.std.proofs.Common.{◌≡◌, ℕ, ℤ, Bool, true, false, if◌then◌else◌, Some, List, [], ◌∷◌, refl, ap, sym, ◌∙◌}
use Rattle.pb_core_language.specs.declared.protocol.CoreRole.{CoreRole}
use Rattle.pb_core_language.specs.Outcomes.{Outcome, nothing_first, receives, other_first, again_first, or_then}
use Rattle.pb_core_flat.specs.OutcomeSets.{is_nothing, found}
use Rattle.pb_core_flat.specs.Stops.{Finding, acts, gets, Stop, first_of, outcome_at}
use Rattle.pb_core_flat.specs.Laws.{StopsInTurn}
use Rattle.pb_core_flat.proofs.OutcomeSets.{or_then_left}

-- who stops finds something
pub finding_is : (roles : List CoreRole) (n i : ℤ) (f : Finding) → is_nothing (outcome_at roles n i f) ≡ false
finding_is roles n i acts = refl
finding_is roles n i (gets source label) = refl

turn_step : (t : Bool) (o p : Outcome) → is_nothing o ≡ false → (if t then o else p) ∷ [] ≡ or_then (if t then o ∷ [] else nothing_first ∷ []) (p ∷ [])
turn_step true nothing_first p h = cc
turn_step true (receives s l) p h = refl
turn_step true other_first p h = refl
turn_step true again_first p h = refl
turn_step false o p h = sym (or_then_left (p ∷ []))

found_if : (t : Bool) (s : Stop) (ss : List Stop) (role : ℕ) (x : ℤ) → found (if t then Some (s.finds x) else first_of ss role x) ≡ (if t then s.finds x else found (first_of ss role x))
found_if true s ss role x = refl
found_if false s ss role x = refl

pub stops_in_turn : StopsInTurn
stops_in_turn s ss role x h =
    ap (λ z. z ∷ []) (found_if (s.has role x) s ss role x) ∙ turn_step (s.has role x) (s.finds x) (found (first_of ss role x)) h
