-- Groups of areas at which ranks stop.
use Rattle.std.proofs.Common.{◌≡◌, ◌≤◌, ℕ, ℤ, List, ◌++◌, ◌∷◌, drop, length, drop_of_length-le, Bool, true, false, not, ◌||◌, ◌&&◌, refl, ap, sym, ◌∙◌, subst, arith}
use Rattle.std.specs.List.{All}
use Rattle.std.proofs.lemmas.Bool.Decides.{nat_tests}
use Rattle.std.proofs.lemmas.List.Elements.{All-append}
use Rattle.std.proofs.Math.Bool.{and-true, or-false}
use Rattle.pb_core_language.specs.declared.protocol.CoreRole.{CoreRole}
use Rattle.pb_core_language.specs.Outcomes.{Outcome}
use Rattle.pb_part_areas.specs.declared.area.Area.{Area}
use Rattle.pb_part_areas.specs.Areas.{have}
use Rattle.pb_part_areas.proofs.Lists.{have_append}
use Rattle.pb_core_flat.specs.OutcomeSets.{outcome_eq}
use Rattle.pb_part_firsts.specs.declared.firsts.Entry.{Entry}
use Rattle.pb_part_firsts.specs.declared.firsts.Kind.{Kind}
use Rattle.pb_part_firsts.specs.declared.parts.Part.{Part}
use Rattle.pb_part_firsts.specs.Firsts.{finds, outcome_of}
use Rattle.pb_part_firsts.specs.Parts.{flat}
use Rattle.pb_part_firsts.specs.Stopping.{Stops}
use Rattle.pb_part_firsts.proofs.Flats.{have_more}

-- parts that are apart from the area around a group are apart from the group
pub past_group : (r a g : Bool) → (g ≡ true → a ≡ true) → r && not a ≡ r → r ≡ r && not g
past_group r a true h e = sym e ∙ ap (λ z. r && not z) (h refl)
past_group r a false h e = sym (and-true r)

-- ---- what is near an area, group by group

near_bools : (o m g d t l : Bool) → m && t ≡ g && t → (o || (g || d)) && t ≡ l → ((o || m) || d) && t ≡ l
near_bools true m g d t l e h = h
near_bools false m g d t l e h = grind (arith, nat_tests)

pub near_step : (groups rest : List Part) (p : Part) (old new met : List Area) (t l : Bool) (n : ℤ) (role : ℕ) (x : ℤ) → groups ≡ p ∷ rest → new ≡ old ++ met → have met n role x && t ≡ have p.areas.items n role x && t →
    (have old n role x || have (flat groups) n role x) && t ≡ l → (have new n role x || have (flat rest) n role x) && t ≡ l
near_step groups rest p old new met t l n role x is e near h =
    ap (λ z. (z || have (flat rest) n role x) && t) (ap (λ z. have z n role x) e ∙ have_append old met n role x)
    ∙ near_bools (have old n role x) (have met n role x) (have p.areas.items n role x) (have (flat rest) n role x) t l near (sym (ap (λ z. (have old n role x || z) && t) (have_more groups rest p n role x is)) ∙ h)

pub near_end : (groups : List Part) (i : ℕ) (o t l : Bool) (n : ℤ) (role : ℕ) (x : ℤ) → length groups ≤ i → (o || have (flat (drop i groups)) n role x) && t ≡ l → o && t ≡ l
near_end groups i o t l n role x le h =
    ap (λ z. z && t) (sym (or-false o)) ∙ sym (ap (λ z. (o || have (flat z) n role x) && t) (drop_of_length-le groups le)) ∙ h

pub added_fits : (P : Area → Type 0) (old new met : List Area) → new ≡ old ++ met → All P old → All P met → All P new
added_fits P old new met e h k = subst (All P) (sym e) (All-append P old met h k)

-- ---- no part is left

pub out_end : (parts : List Part) (i : ℕ) (o a e l : Bool) (n : ℤ) (role : ℕ) (x : ℤ) → length parts ≤ i → o || ((have (flat (drop i parts)) n role x && a) && e) ≡ l → o ≡ l
out_end parts i o a e l n role x le h = sym (or-false o) ∙ sym (ap (λ z. o || ((have (flat z) n role x && a) && e)) (drop_of_length-le parts le)) ∙ h

-- ---- without a group, and then without those behind it

without_bools : (o b d l : Bool) → o && not (b || d) ≡ l → (o && not b) && not d ≡ l
without_bools false b d l h = h
without_bools true false d l h = h
without_bools true true d l h = h

pub without_step : (groups rest : List Part) (p : Part) (o o2 l : Bool) (n : ℤ) (role : ℕ) (x : ℤ) → groups ≡ p ∷ rest → o2 ≡ o && not (have p.areas.items n role x) →
    o && not (have (flat groups) n role x) ≡ l → o2 && not (have (flat rest) n role x) ≡ l
without_step groups rest p o o2 l n role x is e h =
    ap (λ z. z && not (have (flat rest) n role x)) e
    ∙ without_bools o (have p.areas.items n role x) (have (flat rest) n role x) l (sym (ap (λ z. o && not z) (have_more groups rest p n role x is)) ∙ h)

pub without_end : (groups : List Part) (i : ℕ) (o l : Bool) (n : ℤ) (role : ℕ) (x : ℤ) → length groups ≤ i → o && not (have (flat (drop i groups)) n role x) ≡ l → o ≡ l
without_end groups i o l n role x le h = sym (and-true o) ∙ sym (ap (λ z. o && not (have (flat z) n role x)) (drop_of_length-le groups le)) ∙ h

-- ---- both passes

pub both_stop : {roles : List CoreRole} {reach at left : List Area} {old new : List Entry} {kind : Kind} (met : List Area) → ((n : ℤ) (role : ℕ) (x : ℤ) → have met n role x ≡ have at n role x) →
    ((n : ℤ) (role : ℕ) (x : ℤ) (o : Outcome) → finds roles new n role x o ≡ finds roles old n role x o || ((have reach n role x && have met n role x) && outcome_eq (outcome_of roles kind n x) o)) →
    ((n : ℤ) (role : ℕ) (x : ℤ) → have left n role x ≡ have reach n role x && not (have met n role x)) →
    Stops roles reach at left old new kind
both_stop {roles = roles} {reach = reach} {old = old} {kind = kind} met same g h = record {
  out = λ n role x o. g n role x o ∙ ap (λ z. finds roles old n role x o || ((have reach n role x && z) && outcome_eq (outcome_of roles kind n x) o)) (same n role x);
  rest = λ n role x. h n role x ∙ ap (λ z. have reach n role x && not z) (same n role x);
}
