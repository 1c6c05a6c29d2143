-- The breaches of a protocol that keeps the rules 6 to 8 are those of its body.
use Rattle.std.proofs.Common.{◌≡◌, ◌≤◌, inl, inr, ℕ, ℤ, true, false, Option, Some, None, List, [], ◌∷◌, ◌++◌, map, nat_le, length, refl, sym, ap, subst, arith}
use Rattle.std.specs.Prelude.{Contains}
use Rattle.std.proofs.lemmas.Bool.{and_parts}
use Rattle.std.proofs.lemmas.Bool.Decides.{nat_tests}
use Rattle.pb_core_language.specs.declared.protocol.CoreRole.{CoreRole}
use Rattle.pb_core_language.specs.Ranks.{seat_at}
use Rattle.pb_core_language.specs.Plain.{Protocol}
use Rattle.pb_core_language.specs.Flat.{Asked}
use Rattle.pb_core_language.specs.Rules.{empty_roles, each_origin, strays, loners, Breach, nobody, somebody, ranked, misfits, misfitting, flat_at, total_at, ranks_at, broken_6, broken_7, broken_8, broken_9, broken_10, broken_11, broken_12, deserted, breaches}
use Rattle.pb_core_language.specs.Sound.{is_range, are_roles, is_block, rows_of, is_sound}
use Rattle.pb_core_language.specs.Verdict.{Broken, IsIn, IsBroken}
use Rattle.pb_rules.specs.Verdict.{KeepsIndex}
use Rattle.pb_rules.proofs.Lists.{Has, has, contains, has_cases, has_left, has_right, has_map, map_has}
use Rattle.pb_core_flat.specs.Seated.{rank, is_rank}
use Rattle.pb_core_flat.proofs.Below.{over_below_is}
use Rattle.pb_core_flat.proofs.Seats.{seat_of_rank, rank_of_seat}
use Rattle.pb_part_areas.specs.declared.area.Area.{Area}
use Rattle.pb_part_areas.specs.Areas.{have}
use Rattle.pb_cases.specs.Breakpoints.{IsInRange}
use Rattle.pb_part_takers.specs.declared.held.Held.{Held}
use Rattle.pb_choice.specs.declared.found.Found.{Found}
use Rattle.pb_choice.specs.declared.rule.ChoiceRule.{ChoiceRule}
use Rattle.pb_choice.specs.declared.rule.ChoiceRule.TheVariants.{OnlyReceives, OneSource, OwnLabels}
use Rattle.pb_choice.specs.Flaws.{Flaws, IsFlaw, lonely, misled, of_block, fits_of, number_of}
use Rattle.pb_choice.specs.Found.{broken_of, IsNamedBroken, Improves}
use Rattle.pb_choice.specs.Verdict.{IsAnswer}
use Rattle.pb_choice.specs.Walks.{FirstIn}
use Rattle.pb_choice.proofs.Leasts.{to_range}

not_nine : (k : ChoiceRule) → number_of k ≡ 9 → ⊥
not_nine OnlyReceives e = omega arith
not_nine OneSource e = omega arith
not_nine OwnLabels e = omega arith

from_nine : (k : ChoiceRule) → 9 ≤ number_of k
from_nine OnlyReceives = omega arith
from_nine OneSource = omega arith
from_nine OwnLabels = omega arith

below : (a b : ℕ) → a ≤ 8 → a ≡ b → b ≤ 8
below a b h e = omega arith

module _ (p : Protocol) where
  abbrev pub flaws : Flaws
  flaws = of_block p.roles (λ n. []) [] p.body.block

  abbrev pub IsOurs : Broken → Type 0
  IsOurs c = IsFlaw p.range p.roles flaws c

  named : (c : Broken) → IsOurs c → IsNamedBroken c × (9 ≤ c.breach.rule)
  named c (lonely m within is there) =
      subst (λ b. IsNamedBroken (record { n = c.n; breach = b }) × (9 ≤ b.rule)) (sym is) (refl, omega arith)
  named c (misled k m role x within r is there) =
      subst (λ b. IsNamedBroken (record { n = c.n; breach = b }) × (9 ≤ b.rule)) (sym is) (not_nine k, from_nine k)

  -- ---- from a breach

  told_comes : (k : ChoiceRule) (n : ℤ) (b : Breach) → IsIn p.range n → Contains (misfitting p n (number_of k) (fits_of k)) b → IsOurs (record { n = n; breach = b })
  told_comes k n b within there =
      let t = (over_below_is (total_at p n) (λ r. map (ranked (number_of k) (seat_at r (ranks_at p n))) (misfits (fits_of k) [] r (flat_at p n))) b).0 there in
      let u = has_map (ranked (number_of k) (seat_at t.0 (ranks_at p n))) (misfits (fits_of k) [] t.0 (flat_at p n)) b (has _ b t.2) in
      let s = rank_of_seat p.roles n t.0 t.1 in
      misled k u.0 (seat_at t.0 (ranks_at p n)).role (seat_at t.0 (ranks_at p n)).index within s.0 (sym u.2)
      (subst (λ r. Contains (misfits (fits_of k) [] r (flat_at p n)) u.0) (sym s.1) (contains (misfits (fits_of k) [] t.0 (flat_at p n)) u.0 u.1))

  abbrev later : ℤ → List Breach
  later n = broken_9 p n ++ (broken_10 p n ++ (broken_11 p n ++ broken_12 p n))

  later_comes : (n : ℤ) (b : Breach) → IsIn p.range n → Has (later n) b → IsOurs (record { n = n; breach = b })
  later_comes n b within found =
      elim (has_cases (broken_9 p n) (broken_10 p n ++ (broken_11 p n ++ broken_12 p n)) b found) [
        | inl y ↦ (let t = has_map (nobody 9) (deserted (total_at p n) [] (flat_at p n)) b y in lonely t.0 within (sym t.2) (contains (deserted (total_at p n) [] (flat_at p n)) t.0 t.1))
        | inr z ↦ elim (has_cases (broken_10 p n) (broken_11 p n ++ broken_12 p n) b z) [
          | inl y ↦ told_comes OnlyReceives n b within (contains (broken_10 p n) b y)
          | inr w ↦ elim (has_cases (broken_11 p n) (broken_12 p n) b w) [
            | inl y ↦ told_comes OneSource n b within (contains (broken_11 p n) b y)
            | inr v ↦ told_comes OwnLabels n b within (contains (broken_12 p n) b v)
          ]
        ]
      ]

  module _ (index : KeepsIndex p) where
    pub comes : (c : Broken) → IsBroken p c → IsOurs c
    comes c broken =
        elim (has_cases (broken_6 p c.n) (broken_7 p c.n ++ (broken_8 p c.n ++ later c.n)) c.breach (has (breaches p c.n) c.breach broken.there)) [
          | inl y ↦ (let t = has_map (nobody 6) (empty_roles 0 p.roles c.n) c.breach y in absurd (index c broken (below 6 c.breach.rule (omega arith) (ap (λ z. z.rule) t.2))))
          | inr z ↦ elim (has_cases (broken_7 p c.n) (broken_8 p c.n ++ later c.n) c.breach z) [
            | inl y ↦ (let t = has_map (somebody 7) (each_origin (strays (ranks_at p c.n)) (flat_at p c.n)) c.breach y in absurd (index c broken (below 7 c.breach.rule (omega arith) (ap (λ z. z.rule) t.2))))
            | inr w ↦ elim (has_cases (broken_8 p c.n) (later c.n) c.breach w) [
              | inl y ↦ (let t = has_map (somebody 8) (each_origin loners (flat_at p c.n)) c.breach y in absurd (index c broken (below 8 c.breach.rule (omega arith) (ap (λ z. z.rule) t.2))))
              | inr v ↦ later_comes c.n c.breach broken.within v
            ]
          ]
        ]

    -- each end is a rank
    pub none_strays : (n : ℤ) → IsIn p.range n → each_origin (strays (ranks_at p n)) (flat_at p n) ≡ []
    none_strays n within = none (each_origin (strays (ranks_at p n)) (flat_at p n)) (λ a h.
        index (record { n = n; breach = somebody 7 a })
        (record {
          within = within;
          there = contains (breaches p n) (somebody 7 a) (has_right (broken_6 p n) _ (somebody 7 a)
              (has_left (broken_7 p n) _ (somebody 7 a) (map_has (somebody 7) (each_origin (strays (ranks_at p n)) (flat_at p n)) a h)));
        }) (omega arith)) where
          none : (l : List Asked) → ((a : Asked) → Has l a → ⊥) → l ≡ []
          none [] h = refl
          none (a ∷ l) h = absurd (h a (inl refl))

  -- ---- to a breach

  late : (n : ℤ) (b : Breach) → Has (later n) b → Contains (breaches p n) b
  late n b h = contains (breaches p n) b (has_right (broken_6 p n) _ b (has_right (broken_7 p n) _ b (has_right (broken_8 p n) (later n) b h)))

  told_list : ChoiceRule → ℤ → List Breach
  told_list k n = misfitting p n (number_of k) (fits_of k)

  told_late : (k : ChoiceRule) (n : ℤ) (b : Breach) → Has (misfitting p n (number_of k) (fits_of k)) b → Has (later n) b
  told_late OnlyReceives n b h = has_right (broken_9 p n) _ b (has_left (broken_10 p n) _ b h)
  told_late OneSource n b h = has_right (broken_9 p n) _ b (has_right (broken_10 p n) _ b (has_left (broken_11 p n) _ b h))
  told_late OwnLabels n b h = has_right (broken_9 p n) _ b (has_right (broken_10 p n) _ b (has_right (broken_11 p n) _ b h))

  pub goes : (c : Broken) → IsOurs c → IsBroken p c
  goes c (lonely m within is there) = record {
    within = within;
    there = subst (λ b. Contains (breaches p c.n) b) (sym is) (late c.n (nobody 9 m) (has_left (broken_9 p c.n) _ (nobody 9 m) (map_has (nobody 9) (deserted (total_at p c.n) [] (flat_at p c.n)) m (has _ m there))));
  }
  goes c (misled k m role x within r is there) =
      let s = seat_of_rank p.roles c.n (record { role = role; index = x }) r in
      record {
        within = within;
        there = subst (λ b. Contains (breaches p c.n) b) (sym is) (late c.n (ranked (number_of k) (record { role = role; index = x }) m) (told_late k c.n (ranked (number_of k) (record { role = role; index = x }) m)
            (has _ _ ((over_below_is (total_at p c.n) (λ r. map (ranked (number_of k) (seat_at r (ranks_at p c.n))) (misfits (fits_of k) [] r (flat_at p c.n))) (ranked (number_of k) (record { role = role; index = x }) m)).1 (
              rank p.roles c.n role x,
              s.0,
              subst (λ z. Contains (map (ranked (number_of k) z) (misfits (fits_of k) [] (rank p.roles c.n role x) (flat_at p c.n))) (ranked (number_of k) (record { role = role; index = x }) m)) (sym s.1)
                  (contains _ _ (map_has (ranked (number_of k) (record { role = role; index = x })) (misfits (fits_of k) [] (rank p.roles c.n role x) (flat_at p c.n)) m (has _ m there))),
            )))));
      }

  answer : KeepsIndex p → (o : Option Found) → Improves IsOurs None o → IsAnswer p o
  answer index None h = λ c broken. h.first c (named c (comes index c broken)).0 tt (comes index c broken)
  answer index (Some f) h =
      elim h.comes [
        | inl e ↦ absurd (some_none f e)
        | inr ours ↦ record {
          b = broken_of f;
          first = record { broken = goes (broken_of f) ours; first = λ c broken. h.first c (named c (comes index c broken)).0 tt (comes index c broken) };
          of_flow = (named (broken_of f) ours).1;
          rule_is = refl;
          place_is = refl;
          n_is = refl;
          at_is = refl;
        }
      ] where
        some_none : {X : Type 0} (x : X) → ◌≡◌ {A = Option X} (Some x) None → ⊥
        some_none x e = cc

  pub is_answer : (whole : List Area) (none : List Held) (o : Option Found) → is_sound p ≡ true → KeepsIndex p → none ≡ [] →
      ((n : ℤ) (role : ℕ) (x : ℤ) → are_roles p.roles ≡ true → IsInRange p.range n → have whole n role x ≡ is_rank p.roles n role x) → FirstIn p.range whole none p.body.block None o → IsAnswer p o
  is_answer whole none o sound index no_loops is_whole first =
      let parts = and_parts (are_roles p.roles) (is_block (rows_of p) false [] p.body.block) (and_parts (nat_le (length p.roles) 64) _ (and_parts (is_range p.range) _ sound).1).1 in
      let f : FirstIn p.range whole [] p.body.block None o = subst (λ l. FirstIn p.range whole l p.body.block None o) no_loops first in
      answer index o (f.is p.roles (rows_of p) (λ n. []) (record { whole_is = record { is = λ n role x within. is_whole n role x parts.0 (to_range p.range n within) }; held_is = λ n role x within r. refl })
      (record { sound = parts.1; seated = none_strays index }))

pub few_roles : (p : Protocol) (roles : List CoreRole) → is_sound p ≡ true → roles ≡ p.roles → length roles ≤ 64
few_roles p roles sound same =
    subst (λ l. length l ≤ 64) (sym same) (le (length p.roles) 64 (and_parts (nat_le (length p.roles) 64) _ (and_parts (is_range p.range) _ sound).1).0) where
      le : (a b : ℕ) → nat_le a b ≡ true → a ≤ b
      le a b h = grind (arith, nat_tests)
