-- Entries in order: a rank finds what is at the first one whose area holds of it.
use Rattle.std.specs.Prelude.{◌≡◌, ℕ, ℤ, true, List, [], ◌∷◌, map}
use Rattle.pb_affine.specs.declared.range.NRange.{NRange}
use Rattle.pb_core_language.specs.declared.protocol.CoreRole.{CoreRole}
use Rattle.pb_core_language.specs.Outcomes.{Outcome, or_then}
use Rattle.pb_core_language.specs.Verdict.{IsIn}
use Rattle.pb_part_areas.specs.Areas.{has}
use Rattle.pb_core_flat.specs.Seated.{is_rank}
use Rattle.pb_core_flat.specs.OutcomeSets.{found}
use Rattle.pb_core_flat.specs.Stops.{Stop, first_of}
use Rattle.pb_part_firsts.specs.declared.firsts.Entry.{Entry}
use Rattle.pb_part_firsts.specs.Firsts.{outcome_of}

abbrev pub stop_of : List CoreRole → ℤ → Entry → Stop
stop_of roles n e = record { has = λ role x. has e.area n role x; finds = λ x. outcome_of roles e.kind n x }

abbrev pub first_stop : List CoreRole → List Entry → ℤ → ℕ → ℤ → List Outcome
first_stop roles stops n role x = found (first_of (map (stop_of roles n) stops) role x) ∷ []

-- the new list stops those that come through the old one, with these outcomes
pub record AddsStops (range : NRange) (roles : List CoreRole) (old new : List Entry) (outs : ℤ → ℕ → ℤ → List Outcome) : Type 0 where
  pub is : (n : ℤ) (role : ℕ) (x : ℤ) → IsIn range n → is_rank roles n role x ≡ true → first_stop roles new n role x ≡ or_then (first_stop roles old n role x) (outs n role x)
