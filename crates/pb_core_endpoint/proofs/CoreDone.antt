-- The theorem for a core.
use Rattle.std.proofs.Common.{◌≡◌, ◌≢◌, ℕ, zero, suc, ◌<◌, ℤ, pos, Bool, false, List, [], ◌∷◌, ◌++◌, length, map, refl, sym, subst, inl, inr, arith, lt-ltb, length-append}
use Rattle.std.proofs.lemmas.List.{length-map}
use Rattle.pb_affine.specs.Values.{value, range}
use Rattle.pb_world.proofs.Lists.{eqb_cases}
use Rattle.pb_core_language.specs.declared.protocol.CoreRole.{CoreRole}
use Rattle.pb_core_language.specs.Ranks.{Seat, seats_from, total, seat_at}
use Rattle.pb_core_language.specs.Plain.{Protocol}
use Rattle.pb_core_language.specs.Collectives.{word_count, payload_of, combine, setting_of}
use Rattle.pb_core_language.specs.Outcomes.{Outcome}
use Rattle.pb_core_language.specs.Lists.{over_below, is_empty}
use Rattle.pb_core_language.specs.Rules.{empty_roles, each_origin, strays, loners, deserted, misfits, receives_only, keeps_source, keeps_labels, nobody, somebody, ranked, breaches, flat_at, total_at, ranks_at, misfitting, broken_6, broken_7, broken_8, broken_9, broken_10, broken_11, broken_12}
use Rattle.pb_core_endpoint.specs.Rules.{Accepted}
use Rattle.pb_core_endpoint.specs.Core.{IsProper, CoreRanks}
use Rattle.pb_core_endpoint.proofs.Tests.{none_both, not_listed}
use Rattle.pb_core_endpoint.proofs.Collected.{setting_depends}
use Rattle.pb_core_endpoint.proofs.OnceLaws.{once_is}
use Rattle.pb_core_endpoint.proofs.CoreEnds.{ends_down}
use Rattle.pb_core_endpoint.proofs.CoreFormed.{formed_down}

none_mapped : {A B : Type 0} (f : A → B) (xs : List A) → map f xs ≡ [] → xs ≡ []
none_mapped f [] h = refl
none_mapped f (x ∷ xs) h = cc

none_over : {A : Type 0} (T : ℕ) (f : ℕ → List A) → over_below T f ≡ [] → (r : ℕ) → r < T → f r ≡ []
none_over zero f h r lt = absurd (omega arith)
none_over (suc n) f h r lt =
    let both = none_both (over_below n f) (f n) h in
    elim (eqb_cases r n) [ inl e ↦ subst (λ k. f k ≡ []) (sym e.0) both.1 | inr e ↦ none_over n f both.0 r (let ne = e.0 in omega arith) ]

some_length : {A : Type 0} (xs : List A) → is_empty xs ≡ false → 0 < length xs
some_length [] h = cc
some_length (x ∷ xs) h = omega arith

-- where each role has an index, and there is a role, there is a rank
someone_there : (roles : List CoreRole) (n : ℤ) → roles ≢ [] → empty_roles 0 roles n ≡ [] → 0 < total roles n
someone_there [] n some h = absurd (some refl)
someone_there (r ∷ rs) n some h =
    let indices = range (value r.low n (pos 0)) (value r.high n (pos 0)) in
    let first = some_length indices (not_listed (is_empty indices) _ (none_both _ (empty_roles 1 rs n) h).0) in
    let sit : ℤ → Seat = λ x. record { role = 0; index = x } in
    omega (arith, first, length-map indices sit, length-append (map sit indices) (seats_from 1 rs n))

module _ (p : Protocol) (n : ℤ) (none : breaches p n ≡ []) where
  abbrev after_6 : broken_6 p n ≡ []
  after_6 = (none_both (broken_6 p n) _ none).0

  seven : (broken_7 p n ≡ []) × ((broken_8 p n ++ (broken_9 p n ++ (broken_10 p n ++ (broken_11 p n ++ broken_12 p n)))) ≡ [])
  seven = none_both (broken_7 p n) _ (none_both (broken_6 p n) _ none).1

  eight : (broken_8 p n ≡ []) × ((broken_9 p n ++ (broken_10 p n ++ (broken_11 p n ++ broken_12 p n))) ≡ [])
  eight = none_both (broken_8 p n) _ seven.1

  nine : (broken_9 p n ≡ []) × ((broken_10 p n ++ (broken_11 p n ++ broken_12 p n)) ≡ [])
  nine = none_both (broken_9 p n) _ eight.1

  ten : (broken_10 p n ≡ []) × ((broken_11 p n ++ broken_12 p n) ≡ [])
  ten = none_both (broken_10 p n) _ nine.1

  eleven : (broken_11 p n ≡ []) × (broken_12 p n ≡ [])
  eleven = none_both (broken_11 p n) (broken_12 p n) ten.1

  none_fails : (k : ℕ) (fits : List Outcome → List Outcome → Bool) → misfitting p n k fits ≡ [] → (r : ℕ) → r < total_at p n → misfits fits [] r (flat_at p n) ≡ []
  none_fails k fits h r lt = none_mapped (ranked k (seat_at r (ranks_at p n))) (misfits fits [] r (flat_at p n)) (none_over (total_at p n) (λ r. map (ranked k (seat_at r (ranks_at p n))) (misfits fits [] r (flat_at p n))) h r lt)

  pub accepted : IsProper p → Accepted (setting_of p n) (flat_at p n)
  accepted proper = record {
    formed =
        formed_down p.roles n p.body.block (lt-ltb 0 (total p.roles n) (someone_there p.roles n proper.roles (none_mapped (nobody 6) (empty_roles 0 p.roles n) after_6))) proper.scoped
        (none_mapped (somebody 7) (each_origin (strays (ranks_at p n)) (flat_at p n)) seven.0)
        (none_mapped (somebody 8) (each_origin loners (flat_at p n)) eight.0);
    ends = ends_down p.roles n p.body.block proper.simple proper.ends;
    peopled = none_mapped (nobody 9) (deserted (total_at p n) [] (flat_at p n)) nine.0;
    receives = none_fails 10 receives_only ten.0;
    sources = none_fails 11 keeps_source eleven.0;
    labels = none_fails 12 keeps_labels eleven.1;
  }

pub core_ranks : CoreRanks
core_ranks p n proper none = once_is (setting_of p n) (flat_at p n) (setting_depends (total p.roles n) (λ l. word_count (payload_of p.labels l)) (λ operation l x y. combine (payload_of p.labels l) operation x y)) (accepted p n none proper)
