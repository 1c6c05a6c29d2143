-- Entries in order, one after the other.
use Rattle.std.proofs.Common.{◌≡◌, ℕ, ℤ, Bool, true, false, Some, None, List, [], ◌∷◌, ◌++◌, map, refl, ap, sym, ◌∙◌, if◌then◌else◌}
use Rattle.pb_core_language.specs.declared.protocol.CoreRole.{CoreRole}
use Rattle.pb_core_language.specs.Outcomes.{Outcome, nothing_first, or_then}
use Rattle.pb_part_areas.specs.declared.area.Area.{Area}
use Rattle.pb_part_areas.specs.Areas.{has}
use Rattle.pb_core_flat.specs.OutcomeSets.{found}
use Rattle.pb_core_flat.proofs.OutcomeSets.{or_then_assoc, or_then_left}
use Rattle.pb_core_flat.proofs.Turns.{stops_in_turn}
use Rattle.pb_part_firsts.specs.declared.firsts.Entry.{Entry}
use Rattle.pb_part_firsts.specs.declared.firsts.Kind.{Kind}
use Rattle.pb_part_firsts.specs.Firsts.{outcome_of}
use Rattle.pb_part_firsts.specs.Turns.{stop_of, first_stop}
use Rattle.pb_part_firsts.proofs.Outcomes.{kind_some}

pub stops_append : (roles : List CoreRole) (xs ys : List Entry) (n : ℤ) (role : ℕ) (x : ℤ) → first_stop roles (xs ++ ys) n role x ≡ or_then (first_stop roles xs n role x) (first_stop roles ys n role x)
stops_append roles [] ys n role x = sym (or_then_left (first_stop roles ys n role x))
stops_append roles (f ∷ xs) ys n role x =
    let here : List Outcome = if has f.area n role x then outcome_of roles f.kind n x ∷ [] else nothing_first ∷ [] in
    stops_in_turn (stop_of roles n f) (map (stop_of roles n) (xs ++ ys)) role x (kind_some roles f.kind n x)
    ∙ ap (or_then here) (stops_append roles xs ys n role x)
    ∙ sym (or_then_assoc here (first_stop roles xs n role x) (first_stop roles ys n role x))
    ∙ ap (λ z. or_then z (first_stop roles ys n role x)) (sym (stops_in_turn (stop_of roles n f) (map (stop_of roles n) xs) role x (kind_some roles f.kind n x)))

found_one : (t : Bool) (o : Outcome) → found (if t then Some o else None) ∷ [] ≡ (if t then o ∷ [] else nothing_first ∷ [])
found_one true o = refl
found_one false o = refl

-- one more at the end
pub stop_pushed : (roles : List CoreRole) (old new : List Entry) (a : Area) (kind : Kind) (n : ℤ) (role : ℕ) (x : ℤ) → new ≡ old ++ record { area = a; kind = kind } ∷ [] →
    first_stop roles new n role x ≡ or_then (first_stop roles old n role x) (if has a n role x then outcome_of roles kind n x ∷ [] else nothing_first ∷ [])
stop_pushed roles old new a kind n role x e =
    ap (λ z. first_stop roles z n role x) e
    ∙ stops_append roles old (record { area = a; kind = kind } ∷ []) n role x
    ∙ ap (or_then (first_stop roles old n role x)) (found_one (has a n role x) (outcome_of roles kind n x))
