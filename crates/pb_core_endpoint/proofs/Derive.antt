-- From the tests of the rules, what the proofs use.
use Rattle.std.proofs.Common.{◌≡◌, ◌≢◌, ℕ, zero, suc, ◌<◌, ◌==◌, Bool, cond, true, false, ◌||◌, ◌&&◌, not, MatchBool, List, [], ◌∷◌, ◌++◌, length, refl, sym, ap, ap₂, ◌∙◌, subst, inl, inr, nat_lt, arith}
use Rattle.std.proofs.lemmas.Bool.{eq-eqb, eqb-true, ltb-true, or_cases, or_right, or_left, and_parts, cases_Bool}
use Rattle.pb_world.proofs.Lists.{eqb_cases}
use Rattle.pb_core_language.specs.Lists.{nth, some_below, is_among}
use Rattle.pb_core_language.specs.Flat.{Block, stop, message, compute, together, choice, looped, again, Branches, no_branch, branch, takes_part, takes_part_among, count, branch_at, can_end, some_can_end}
use Rattle.pb_core_language.specs.Run.{Setting, Env, at_rank}
use Rattle.pb_core_language.specs.Outcomes.{Outcome, nothing_first, receives, other_first, again_first, or_then, firsts, firsts_among, only_receives, only_from, source_of, labels_of}
use Rattle.pb_core_endpoint.specs.Rules.{is_formed, are_formed, is_stop, loops_end, loops_end_each, ends_before, ends_before_each, Accepted}
use Rattle.pb_core_language.specs.Rules.{receives_only, keeps_source, keeps_labels, holds_again, holds_again_among}
use Rattle.pb_core_endpoint.proofs.Tests.{all_below, is_peopled, are_peopled, at_choices, at_choices_among, all_receives, from_one, labels_fit, peopled_of, choices_of, says_receives, says_source, apart_of}
use Rattle.pb_core_endpoint.proofs.Kept.{Receives_first, Receives_each, first_label, first_label_among, IsTold, Keeps, Keeps_each, Loops_end, Loops_end_each, Ends_before, Ends_before_each, Has, Continued, Continued_each, Obeys}
use Rattle.pb_core_endpoint.proofs.Moves.{labels_append, among_left, among_right}
use Rattle.pb_core_endpoint.proofs.Progress.{le_under, part_more}

-- ---- tests

all_at : (T : ℕ) (f : ℕ → Bool) (r : ℕ) → r < T → all_below T f ≡ true → f r ≡ true
all_at zero f r lt h = absurd (omega arith)
all_at (suc n) f r lt h =
    let both = and_parts (f n) (all_below n f) h in
    elim (eqb_cases r n) [ inl e ↦ subst (λ k. f k ≡ true) (sym e.0) both.0 | inr e ↦ all_at n f r (let ne = e.0 in omega arith) both.1 ]

some_at : (T : ℕ) (f : ℕ → Bool) → some_below T f ≡ true → (r : ℕ) × (r < T) × (f r ≡ true)
some_at zero f h = cc
some_at (suc n) f h =
    elim (or_cases (f n) (some_below n f) h) [ inl y ↦ (n, omega arith, y) | inr y ↦ (let s = some_at n f y in (s.0, (let lt = s.1 in omega arith), s.2)) ]

not_false : (a b : Bool) → (not a || b) ≡ true → a ≡ true → b ≡ true
not_false true b h e = h
not_false false b h e = cc

or_false : (a b : Bool) → (a || b) ≡ true → a ≡ false → b ≡ true
or_false false b h e = h
or_false true b h e = cc

differ : (p q : ℕ) → not (p == q) ≡ true → p ≢ q
differ p q h e = let yes = eq-eqb p q e in let no' : not (p == q) ≡ false = ap not yes in cc

-- ---- lists of outcomes

abbrev no_nothing : List Outcome → Bool
no_nothing [] = true
no_nothing (nothing_first ∷ os) = false
no_nothing (receives s l ∷ os) = no_nothing os
no_nothing (other_first ∷ os) = no_nothing os
no_nothing (again_first ∷ os) = no_nothing os

receives_something : (xs : List Outcome) → only_receives xs ≡ true → no_nothing xs ≡ true
receives_something [] h = refl
receives_something (receives s l ∷ xs) h = receives_something xs h
receives_something (nothing_first ∷ xs) h = cc
receives_something (other_first ∷ xs) h = cc
receives_something (again_first ∷ xs) h = cc

or_then_none : (xs rest : List Outcome) → no_nothing xs ≡ true → or_then xs rest ≡ xs
or_then_none [] rest h = refl
or_then_none (receives s l ∷ xs) rest h = ap (λ k. receives s l ∷ k) (or_then_none xs rest h)
or_then_none (nothing_first ∷ xs) rest h = cc
or_then_none (other_first ∷ xs) rest h = ap (λ k. other_first ∷ k) (or_then_none xs rest h)
or_then_none (again_first ∷ xs) rest h = ap (λ k. again_first ∷ k) (or_then_none xs rest h)

receives_append : (xs ys : List Outcome) → only_receives (xs ++ ys) ≡ true → (only_receives xs ≡ true) × (only_receives ys ≡ true)
receives_append [] ys h = (refl, h)
receives_append (receives s l ∷ xs) ys h = receives_append xs ys h
receives_append (nothing_first ∷ xs) ys h = cc
receives_append (other_first ∷ xs) ys h = cc
receives_append (again_first ∷ xs) ys h = cc

from_append : (p : ℕ) (xs ys : List Outcome) → only_from p (xs ++ ys) ≡ true → (only_from p xs ≡ true) × (only_from p ys ≡ true)
from_append p [] ys h = (refl, h)
from_append p (receives s l ∷ xs) ys h =
    let a = and_parts (s == p) (only_from p (xs ++ ys)) h in
    let b = from_append p xs ys a.1 in
    (ap₂ (λ u v. u && v) a.0 b.0, b.1)
from_append p (nothing_first ∷ xs) ys h = from_append p xs ys h
from_append p (other_first ∷ xs) ys h = from_append p xs ys h
from_append p (again_first ∷ xs) ys h = from_append p xs ys h

module _ (T r : ℕ) (is_rank : r < T) where
  -- the rule on choices, for this rank
  abbrev R : Env → Block → Type 0
  R env g = at_choices all_receives T env g ≡ true

  abbrev test_at : (List Bool → ℕ → Branches → Bool) → Env → ℕ → Branches → ℕ → Bool
  test_at test env p bs r = (p == r) || (not (takes_part_among (at_rank r env) r bs) || test (at_rank r env) r bs)

  told_test : (test : List Bool → ℕ → Branches → Bool) (env : Env) (p : ℕ) (bs : Branches) → all_below T (test_at test env p bs) ≡ true → (p == r) ≡ false → takes_part_among (at_rank r env) r bs ≡ true → test (at_rank r env) r bs ≡ true
  told_test test env p bs h ne y = not_false _ _ (or_false _ _ (all_at T (test_at test env p bs) r is_rank h) ne) y

  abbrev inner : Env → Block → Env
  inner env b = (λ r. takes_part (false ∷ at_rank r env) r b) ∷ env

  part_inside : (env : Env) (b : Block) → takes_part (false ∷ at_rank r env) r b ≡ true → takes_part (at_rank r (inner env b)) r b ≡ true
  part_inside env b h = let e = at_rank r env in part_more (false ∷ e) (takes_part (false ∷ e) r b ∷ e) r b (le_under false (takes_part (false ∷ e) r b) e e (λ n. cc) (λ n t. t)) h

  -- a rank that takes part finds something
  found : (env : Env) (g : Block) → R env g → takes_part (at_rank r env) r g ≡ true → no_nothing (firsts (at_rank r env) r g) ≡ true
  found env stop k h = cc
  found env (message origin p q l g) k h =
      let e = at_rank r env in
      let F = firsts e r g in
      elim (cases_Bool (p == r)) [
        | inl y ↦ ap (λ u. no_nothing (cond u (other_first ∷ []) (cond (q == r) (receives p l ∷ []) F))) y
        | inr y ↦ elim (cases_Bool (q == r)) [
          | inl z ↦ ap₂ (λ u v. no_nothing (cond u (other_first ∷ []) (cond v (receives p l ∷ []) F))) y z
          | inr z ↦ ap₂ (λ u v. no_nothing (cond u (other_first ∷ []) (cond v (receives p l ∷ []) F))) y z ∙ found env g k (or_false _ _ (or_false _ _ h y) z)
        ]
      ]
  found env (compute origin p j g) k h =
      let F = firsts (at_rank r env) r g in
      elim (cases_Bool (p == r)) [
        | inl y ↦ ap (λ u. no_nothing (cond u (other_first ∷ []) F)) y
        | inr y ↦ ap (λ u. no_nothing (cond u (other_first ∷ []) F)) y ∙ found env g k (or_false _ _ h y)
      ]
  found env (together origin j g) k h = refl
  found env (choice origin p j bs g) k h =
      let e = at_rank r env in
      let F = firsts e r g in
      let FA = firsts_among e r bs in
      let ks = and_parts (all_below T (test_at all_receives env p bs)) _ k in
      let all : Bool → Bool → List Outcome = λ u v. cond u (other_first ∷ []) (cond v (or_then FA F) F) in
      elim (cases_Bool (p == r)) [
        | inl y ↦ ap (λ u. no_nothing (all u (takes_part_among e r bs))) y
        | inr y ↦ elim (cases_Bool (takes_part_among e r bs)) [
          | inl z ↦ (let o = receives_something FA (told_test all_receives env p bs ks.0 y z) in ap₂ (λ u v. no_nothing (all u v)) y z ∙ ap no_nothing (or_then_none FA F o) ∙ o)
          | inr z ↦ ap₂ (λ u v. no_nothing (all u v)) y z ∙ found env g (and_parts (at_choices_among all_receives T env bs) _ ks.1).1 (or_false _ _ h (ap₂ (λ u v. u || v) y z))
        ]
      ]
  found env (looped origin b g) k h =
      let e = at_rank r env in
      let F = firsts e r g in
      let t = takes_part (false ∷ e) r b in
      let XS = firsts (t ∷ e) r b in
      let ks = and_parts (at_choices all_receives T (inner env b) b) _ k in
      let all : Bool → List Outcome = λ u. cond u (or_then XS F) F in
      elim (cases_Bool t) [
        | inl z ↦ (let o = found (inner env b) b ks.0 (part_inside env b z) in ap (λ u. no_nothing (all u)) z ∙ ap no_nothing (or_then_none XS F o) ∙ o)
        | inr z ↦ ap (λ u. no_nothing (all u)) z ∙ found env g ks.1 (or_false _ _ h z)
      ]
  found env (again n) k h = ap (λ u. no_nothing (cond u (again_first ∷ []) (nothing_first ∷ []))) h

  -- where it finds only receives from p, it receives from p first
  mutual
    receives_first : (env : Env) (g : Block) (p : ℕ) → R env g → only_receives (firsts (at_rank r env) r g) ≡ true → only_from p (firsts (at_rank r env) r g) ≡ true → Receives_first (at_rank r env) r p g
    receives_first env stop p k o f = cc
    receives_first env (message origin p' q l g) p k o f =
        let e = at_rank r env in
        let F = firsts e r g in
        let all : Bool → Bool → List Outcome = λ u v. cond u (other_first ∷ []) (cond v (receives p' l ∷ []) F) in
        let goal : Bool → Bool → Type 0 = λ u v. MatchBool u ⊥ (MatchBool v (p' ≡ p) (Receives_first e r p g)) in
        elim (cases_Bool (p' == r)) [
          | inl y ↦ (let no' = sym (ap (λ u. only_receives (all u (q == r))) y) ∙ o in cc)
          | inr y ↦ elim (cases_Bool (q == r)) [
            | inl z ↦
                let f' : ((p' == p) && true) ≡ true = sym (ap₂ (λ u v. only_from p (all u v)) y z) ∙ f in
                let same : p' ≡ p = eqb-true p' p (and_parts (p' == p) true f').0 in
                subst (λ u. goal u (q == r)) (sym y) (subst (λ v. goal false v) (sym z) same)
            | inr z ↦ subst (λ u. goal u (q == r)) (sym y) (subst (λ v. goal false v) (sym z)
                (receives_first env g p k (sym (ap₂ (λ u v. only_receives (all u v)) y z) ∙ o) (sym (ap₂ (λ u v. only_from p (all u v)) y z) ∙ f)))
          ]
        ]
    receives_first env (compute origin p' j g) p k o f =
        let e = at_rank r env in
        let F = firsts e r g in
        let all : Bool → List Outcome = λ u. cond u (other_first ∷ []) F in
        elim (cases_Bool (p' == r)) [
          | inl y ↦ (let no' = sym (ap (λ u. only_receives (all u)) y) ∙ o in cc)
          | inr y ↦ subst (λ u. MatchBool u ⊥ (Receives_first e r p g)) (sym y) (receives_first env g p k (sym (ap (λ u. only_receives (all u)) y) ∙ o) (sym (ap (λ u. only_from p (all u)) y) ∙ f))
        ]
    receives_first env (together origin j g) p k o f = cc
    receives_first env (choice origin p' j bs g) p k o f =
        let e = at_rank r env in
        let F = firsts e r g in
        let FA = firsts_among e r bs in
        let ks = and_parts (all_below T (test_at all_receives env p' bs)) _ k in
        let kb = and_parts (at_choices_among all_receives T env bs) _ ks.1 in
        let all : Bool → Bool → List Outcome = λ u v. cond u (other_first ∷ []) (cond v (or_then FA F) F) in
        let goal : Bool → Bool → Type 0 = λ u v. MatchBool u ⊥ (MatchBool v (Receives_each e r p bs) (Receives_first e r p g)) in
        elim (cases_Bool (p' == r)) [
          | inl y ↦ (let no' = sym (ap (λ u. only_receives (all u (takes_part_among e r bs))) y) ∙ o in cc)
          | inr y ↦ elim (cases_Bool (takes_part_among e r bs)) [
            | inl z ↦
                let o' = told_test all_receives env p' bs ks.0 y z in
                let f' : only_from p FA ≡ true = sym (ap₂ (λ u v. only_from p (all u v)) y z ∙ ap (only_from p) (or_then_none FA F (receives_something FA o'))) ∙ f in
                subst (λ u. goal u (takes_part_among e r bs)) (sym y) (subst (λ v. goal false v) (sym z) (receives_each env bs p kb.0 o' f'))
            | inr z ↦ subst (λ u. goal u (takes_part_among e r bs)) (sym y) (subst (λ v. goal false v) (sym z)
                (receives_first env g p kb.1 (sym (ap₂ (λ u v. only_receives (all u v)) y z) ∙ o) (sym (ap₂ (λ u v. only_from p (all u v)) y z) ∙ f)))
          ]
        ]
    receives_first env (looped origin b g) p k o f =
        let e = at_rank r env in
        let F = firsts e r g in
        let t = takes_part (false ∷ e) r b in
        let XS = firsts (t ∷ e) r b in
        let ks = and_parts (at_choices all_receives T (inner env b) b) _ k in
        let all : Bool → List Outcome = λ u. cond u (or_then XS F) F in
        let goal : Bool → Type 0 = λ u. MatchBool u (Receives_first (true ∷ e) r p b) (Receives_first e r p g) in
        elim (cases_Bool t) [
          | inl z ↦
              let is : all t ≡ XS = ap all z ∙ or_then_none XS F (found (inner env b) b ks.0 (part_inside env b z)) in
              subst goal (sym z) (subst (λ u. Receives_first (u ∷ e) r p b) z (receives_first (inner env b) b p ks.0 (sym (ap only_receives is) ∙ o) (sym (ap (only_from p) is) ∙ f)))
          | inr z ↦ subst goal (sym z) (receives_first env g p ks.1 (sym (ap (λ u. only_receives (all u)) z) ∙ o) (sym (ap (λ u. only_from p (all u)) z) ∙ f))
        ]
    receives_first env (again n) p k o f =
        let all : Bool → List Outcome = λ u. cond u (again_first ∷ []) (nothing_first ∷ []) in
        elim (cases_Bool (nth (at_rank r env) n)) [
          | inl y ↦ (let no' = sym (ap (λ u. only_receives (all u)) y) ∙ o in cc)
          | inr y ↦ (let no' = sym (ap (λ u. only_receives (all u)) y) ∙ o in cc)
        ]

    receives_each : (env : Env) (bs : Branches) (p : ℕ) → at_choices_among all_receives T env bs ≡ true → only_receives (firsts_among (at_rank r env) r bs) ≡ true → only_from p (firsts_among (at_rank r env) r bs) ≡ true → Receives_each (at_rank r env) r p bs
    receives_each env no_branch p k o f = tt
    receives_each env (branch mark b bs) p k o f =
        let e = at_rank r env in
        let ks = and_parts (at_choices all_receives T env b) _ k in
        let os = receives_append (firsts e r b) (firsts_among e r bs) o in
        let fs = from_append p (firsts e r b) (firsts_among e r bs) f in
        (receives_first env b p ks.0 os.0 fs.0, receives_each env bs p ks.1 os.1 fs.1)

  -- the labels of what it receives first are those of its outcomes
  mutual
    labels_listed : (env : Env) (g : Block) (p : ℕ) → R env g → Receives_first (at_rank r env) r p g → (l : ℕ) → first_label (at_rank r env) r g l ≡ true → is_among l (labels_of (firsts (at_rank r env) r g)) ≡ true
    labels_listed env stop p k d l h = cc
    labels_listed env (message origin p' q m g) p k d l h =
        let e = at_rank r env in
        let F = firsts e r g in
        let all : Bool → Bool → List Outcome = λ u v. cond u (other_first ∷ []) (cond v (receives p' m ∷ []) F) in
        let goal : Bool → Bool → Type 0 = λ u v. MatchBool u ⊥ (MatchBool v (p' ≡ p) (Receives_first e r p g)) in
        elim (cases_Bool (p' == r)) [
          | inl y ↦ absurd (subst (λ u. goal u (q == r)) y d)
          | inr y ↦
              let d' = subst (λ u. goal u (q == r)) y d in
              elim (cases_Bool (q == r)) [
                | inl z ↦ ap₂ (λ u v. is_among l (labels_of (all u v))) y z ∙ or_left (m == l) false (sym (ap (λ u. cond u (m == l) (first_label e r g l)) z) ∙ h)
                | inr z ↦ ap₂ (λ u v. is_among l (labels_of (all u v))) y z ∙ labels_listed env g p k (subst (λ v. goal false v) z d') l (sym (ap (λ u. cond u (m == l) (first_label e r g l)) z) ∙ h)
              ]
        ]
    labels_listed env (compute origin p' j g) p k d l h =
        let e = at_rank r env in
        elim (cases_Bool (p' == r)) [
          | inl y ↦ absurd (subst (λ u. MatchBool u ⊥ (Receives_first e r p g)) y d)
          | inr y ↦ ap (λ u. is_among l (labels_of (cond u (other_first ∷ []) (firsts e r g)))) y ∙ labels_listed env g p k (subst (λ u. MatchBool u ⊥ (Receives_first e r p g)) y d) l h
        ]
    labels_listed env (together origin j g) p k d l h = absurd d
    labels_listed env (choice origin p' j bs g) p k d l h =
        let e = at_rank r env in
        let F = firsts e r g in
        let FA = firsts_among e r bs in
        let ks = and_parts (all_below T (test_at all_receives env p' bs)) _ k in
        let kb = and_parts (at_choices_among all_receives T env bs) _ ks.1 in
        let all : Bool → Bool → List Outcome = λ u v. cond u (other_first ∷ []) (cond v (or_then FA F) F) in
        let goal : Bool → Bool → Type 0 = λ u v. MatchBool u ⊥ (MatchBool v (Receives_each e r p bs) (Receives_first e r p g)) in
        elim (cases_Bool (p' == r)) [
          | inl y ↦ absurd (subst (λ u. goal u (takes_part_among e r bs)) y d)
          | inr y ↦
              let d' = subst (λ u. goal u (takes_part_among e r bs)) y d in
              elim (cases_Bool (takes_part_among e r bs)) [
                | inl z ↦
                    let o = receives_something FA (told_test all_receives env p' bs ks.0 y z) in
                    ap₂ (λ u v. is_among l (labels_of (all u v))) y z ∙ ap (λ xs. is_among l (labels_of xs)) (or_then_none FA F o)
                    ∙ labels_listed_each env bs p kb.0 (subst (λ v. goal false v) z d') l (sym (ap (λ u. cond u (first_label_among e r bs l) (first_label e r g l)) z) ∙ h)
                | inr z ↦ ap₂ (λ u v. is_among l (labels_of (all u v))) y z ∙ labels_listed env g p kb.1 (subst (λ v. goal false v) z d') l (sym (ap (λ u. cond u (first_label_among e r bs l) (first_label e r g l)) z) ∙ h)
              ]
        ]
    labels_listed env (looped origin b g) p k d l h =
        let e = at_rank r env in
        let F = firsts e r g in
        let t = takes_part (false ∷ e) r b in
        let XS = firsts (t ∷ e) r b in
        let ks = and_parts (at_choices all_receives T (inner env b) b) _ k in
        let all : Bool → List Outcome = λ u. cond u (or_then XS F) F in
        let goal : Bool → Type 0 = λ u. MatchBool u (Receives_first (true ∷ e) r p b) (Receives_first e r p g) in
        elim (cases_Bool t) [
          | inl z ↦
              let is : all t ≡ XS = ap all z ∙ or_then_none XS F (found (inner env b) b ks.0 (part_inside env b z)) in
              let inside : Receives_first (t ∷ e) r p b = subst (λ u. Receives_first (u ∷ e) r p b) (sym z) (subst goal z d) in
              let h' : first_label (t ∷ e) r b l ≡ true = ap (λ u. first_label (u ∷ e) r b l) z ∙ sym (ap (λ u. cond u (first_label (true ∷ e) r b l) (first_label e r g l)) z) ∙ h in
              ap (λ xs. is_among l (labels_of xs)) is ∙ labels_listed (inner env b) b p ks.0 inside l h'
          | inr z ↦ ap (λ u. is_among l (labels_of (all u))) z ∙ labels_listed env g p ks.1 (subst goal z d) l (sym (ap (λ u. cond u (first_label (true ∷ e) r b l) (first_label e r g l)) z) ∙ h)
        ]
    labels_listed env (again n) p k d l h = absurd d

    labels_listed_each : (env : Env) (bs : Branches) (p : ℕ) → at_choices_among all_receives T env bs ≡ true → Receives_each (at_rank r env) r p bs → (l : ℕ) → first_label_among (at_rank r env) r bs l ≡ true → is_among l (labels_of (firsts_among (at_rank r env) r bs)) ≡ true
    labels_listed_each env no_branch p k d l h = cc
    labels_listed_each env (branch mark b bs) p k d l h =
        let e = at_rank r env in
        let ks = and_parts (at_choices all_receives T env b) _ k in
        ap (is_among l) (labels_append (firsts e r b) (firsts_among e r bs)) ∙
        (elim (or_cases (first_label e r b l) (first_label_among e r bs l) h) [
          | inl y ↦ among_left l (labels_of (firsts e r b)) (labels_of (firsts_among e r bs)) (labels_listed env b p ks.0 d.0 l y)
          | inr y ↦ among_right l (labels_of (firsts e r b)) (labels_of (firsts_among e r bs)) (labels_listed_each env bs p ks.1 d.1 l y)
        ])

  labels_at : (env : Env) (bs : Branches) (p : ℕ) → at_choices_among all_receives T env bs ≡ true → Receives_each (at_rank r env) r p bs → (x l : ℕ) → first_label (at_rank r env) r (branch_at x bs) l ≡ true → is_among l (labels_of (firsts (at_rank r env) r (branch_at x bs))) ≡ true
  labels_at env no_branch p k d x l h = cc
  labels_at env (branch mark b bs) p k d zero l h = labels_listed env b p (and_parts (at_choices all_receives T env b) _ k).0 d.0 l h
  labels_at env (branch mark b bs) p k d (suc x) l h = labels_at env bs p (and_parts (at_choices all_receives T env b) _ k).1 d.1 x l h

  -- what the three tests say of a choice
  told_is : (env : Env) (p : ℕ) (bs : Branches) → all_below T (test_at all_receives env p bs) ≡ true → all_below T (test_at from_one env p bs) ≡ true → all_below T (test_at labels_fit env p bs) ≡ true → at_choices_among all_receives T env bs ≡ true → (p == r) ≡ false → takes_part_among (at_rank r env) r bs ≡ true → IsTold (at_rank r env) r bs
  told_is env p bs a b c k ne y =
      let e = at_rank r env in
      let src = source_of (firsts_among e r bs) in
      let all = receives_each env bs src k (told_test all_receives env p bs a ne y) (told_test from_one env p bs b ne y) in
      record { receives = all; labels = labels_at env bs src k all; apart = apart_of e r bs (told_test labels_fit env p bs c ne y) }

-- ---- all rules

mutual
  keeps_of : (T : ℕ) (env : Env) (g : Block) → is_formed T (length env) g ≡ true → at_choices all_receives T env g ≡ true → at_choices from_one T env g ≡ true → at_choices labels_fit T env g ≡ true → Keeps T env g
  keeps_of T env stop f a b c = tt
  keeps_of T env (message origin p q l g) f a b c =
      let x = and_parts _ (is_formed T (length env) g) f in
      let y = and_parts (nat_lt p T) _ x.0 in
      let z = and_parts (nat_lt q T) _ y.1 in
      (ltb-true p T y.0, ltb-true q T z.0, differ p q z.1, keeps_of T env g x.1 a b c)
  keeps_of T env (compute origin p k g) f a b c =
      let x = and_parts _ (is_formed T (length env) g) f in
      (ltb-true p T x.0, keeps_of T env g x.1 a b c)
  keeps_of T env (together origin j g) f a b c =
      let x = and_parts _ (is_formed T (length env) g) f in
      (ltb-true 0 T x.0, keeps_of T env g x.1 a b c)
  keeps_of T env (choice origin p k bs g) f a b c =
      let x = and_parts (nat_lt p T && nat_lt 0 (count bs)) _ f in
      let y = and_parts (nat_lt p T) _ x.0 in
      let z = and_parts (are_formed T (length env) bs) _ x.1 in
      let a1 = and_parts (all_below T (λ r. (p == r) || (not (takes_part_among (at_rank r env) r bs) || all_receives (at_rank r env) r bs))) _ a in
      let b1 = and_parts (all_below T (λ r. (p == r) || (not (takes_part_among (at_rank r env) r bs) || from_one (at_rank r env) r bs))) _ b in
      let c1 = and_parts (all_below T (λ r. (p == r) || (not (takes_part_among (at_rank r env) r bs) || labels_fit (at_rank r env) r bs))) _ c in
      let a2 = and_parts (at_choices_among all_receives T env bs) _ a1.1 in
      let b2 = and_parts (at_choices_among from_one T env bs) _ b1.1 in
      let c2 = and_parts (at_choices_among labels_fit T env bs) _ c1.1 in (
        ltb-true p T y.0,
        ltb-true 0 (count bs) y.1,
        (λ r lt ne part_is. told_is T r lt env p bs a1.0 b1.0 c1.0 a2.0 ne part_is),
        keeps_each_of T env bs z.0 a2.0 b2.0 c2.0,
        keeps_of T env g z.1 a2.1 b2.1 c2.1,
      )
  keeps_of T env (looped origin d g) f a b c =
      let x = and_parts (is_formed T (suc (length env)) d) _ f in
      let env' : Env = (λ r. takes_part (false ∷ at_rank r env) r d) ∷ env in
      let a1 = and_parts (at_choices all_receives T env' d) _ a in
      let b1 = and_parts (at_choices from_one T env' d) _ b in
      let c1 = and_parts (at_choices labels_fit T env' d) _ c in
      (keeps_of T env' d x.0 a1.0 b1.0 c1.0, keeps_of T env g x.1 a1.1 b1.1 c1.1)
  keeps_of T env (again n) f a b c = ltb-true n (length env) f

  keeps_each_of : (T : ℕ) (env : Env) (bs : Branches) → are_formed T (length env) bs ≡ true → at_choices_among all_receives T env bs ≡ true → at_choices_among from_one T env bs ≡ true → at_choices_among labels_fit T env bs ≡ true → Keeps_each T env bs
  keeps_each_of T env no_branch f a b c = tt
  keeps_each_of T env (branch mark d bs) f a b c =
      let x = and_parts (is_formed T (length env) d) _ f in
      let a1 = and_parts (at_choices all_receives T env d) _ a in
      let b1 = and_parts (at_choices from_one T env d) _ b in
      let c1 = and_parts (at_choices labels_fit T env d) _ c in
      (keeps_of T env d x.0 a1.0 b1.0 c1.0, keeps_each_of T env bs x.1 a1.1 b1.1 c1.1)

mutual
  loops_of : (g : Block) → loops_end g ≡ true → Loops_end g
  loops_of stop h = tt
  loops_of (message origin p q l g) h = loops_of g h
  loops_of (compute origin p k g) h = loops_of g h
  loops_of (together origin j g) h = loops_of g h
  loops_of (choice origin p k bs g) h = let x = and_parts (loops_end_each bs) _ h in (loops_each_of bs x.0, loops_of g x.1)
  loops_of (looped origin b g) h = let x = and_parts (can_end b) _ h in let y = and_parts (loops_end b) _ x.1 in (x.0, loops_of b y.0, loops_of g y.1)
  loops_of (again n) h = tt

  loops_each_of : (bs : Branches) → loops_end_each bs ≡ true → Loops_end_each bs
  loops_each_of no_branch h = tt
  loops_each_of (branch mark b bs) h = let x = and_parts (loops_end b) _ h in (loops_of b x.0, loops_each_of bs x.1)

mutual
  ends_of : (g : Block) → ends_before g ≡ true → Ends_before g
  ends_of stop h = tt
  ends_of (message origin p q l g) h = ends_of g h
  ends_of (compute origin p k g) h = ends_of g h
  ends_of (together origin j g) h = ends_of g h
  ends_of (choice origin p k bs g) h =
      let x = and_parts (is_stop g || (some_can_end bs && loops_end_each bs)) _ h in
      let y = and_parts (ends_before_each bs) _ x.1 in
      ((λ s. let z = and_parts (some_can_end bs) _ (or_false (is_stop g) _ x.0 s) in (z.0, loops_each_of bs z.1)), ends_each_of bs y.0, ends_of g y.1)
  ends_of (looped origin b g) h =
      let x = and_parts (is_stop g || (can_end b && loops_end b)) _ h in
      let y = and_parts (ends_before b) _ x.1 in
      ((λ s. let z = and_parts (can_end b) _ (or_false (is_stop g) _ x.0 s) in (z.0, loops_of b z.1)), ends_of b y.0, ends_of g y.1)
  ends_of (again n) h = tt

  ends_each_of : (bs : Branches) → ends_before_each bs ≡ true → Ends_before_each bs
  ends_each_of no_branch h = tt
  ends_each_of (branch mark b bs) h = let x = and_parts (ends_before b) _ h in (ends_of b x.0, ends_each_of bs x.1)

-- each continue has a rank that takes part in its loop, for the loop's body holds it
mutual
  continued : (T : ℕ) (env : Env) (g : Block) → ((n : ℕ) → holds_again n g ≡ true → Has T env n) → is_peopled T env g ≡ true → Continued T env g
  continued T env stop h p = tt
  continued T env (message origin a b l g) h p = continued T env g h p
  continued T env (compute origin a k g) h p = continued T env g h p
  continued T env (together origin j g) h p = continued T env g h p
  continued T env (choice origin a k bs g) h p =
      let x = and_parts (are_peopled T env bs) _ p in (
        continued_each T env bs (λ n e. h n (or_left (holds_again_among n bs) (holds_again n g) e)) x.0,
        continued T env g (λ n e. h n (or_right (holds_again_among n bs) (holds_again n g) e)) x.1,
      )
  continued T env (looped origin b g) h p =
      let x = and_parts (not (holds_again 0 b) || some_below T (λ r. takes_part (false ∷ at_rank r env) r b)) _ p in
      let env' : Env = (λ r. takes_part (false ∷ at_rank r env) r b) ∷ env in
      let y = and_parts (is_peopled T env' b) _ x.1 in (
        continued T env' b (inside T env b g h x.0) y.0,
        continued T env g (λ n e. h n (or_right (holds_again (suc n) b) (holds_again n g) e)) y.1,
      )
    where
      inside : (T : ℕ) (env : Env) (b g : Block) → ((n : ℕ) → holds_again n (looped origin b g) ≡ true → Has T env n) → (not (holds_again 0 b) || some_below T (λ r. takes_part (false ∷ at_rank r env) r b)) ≡ true → (n : ℕ) → holds_again n b ≡ true → Has T ((λ r. takes_part (false ∷ at_rank r env) r b) ∷ env) n
      inside T env b g h p zero e = some_at T (λ r. takes_part (false ∷ at_rank r env) r b) (not_false _ _ p e)
      inside T env b g h p (suc n) e = h n (or_left (holds_again (suc n) b) (holds_again n g) e)
  continued T env (again m) h p = h m (eq-eqb m m refl)

  continued_each : (T : ℕ) (env : Env) (bs : Branches) → ((n : ℕ) → holds_again_among n bs ≡ true → Has T env n) → are_peopled T env bs ≡ true → Continued_each T env bs
  continued_each T env no_branch h p = tt
  continued_each T env (branch mark b bs) h p =
      let x = and_parts (is_peopled T env b) _ p in (
        continued T env b (λ n e. h n (or_left (holds_again n b) (holds_again_among n bs) e)) x.0,
        continued_each T env bs (λ n e. h n (or_right (holds_again n b) (holds_again_among n bs) e)) x.1,
      )

-- a continue stands inside its loop
mutual
  stands_in : (T : ℕ) (env : Env) (g : Block) (n : ℕ) → Keeps T env g → holds_again n g ≡ true → n < length env
  stands_in T env stop n k h = cc
  stands_in T env (message origin a b l g) n k h = stands_in T env g n k.3 h
  stands_in T env (compute origin a i g) n k h = stands_in T env g n k.1 h
  stands_in T env (together origin j g) n k h = stands_in T env g n k.1 h
  stands_in T env (choice origin a i bs g) n k h =
      elim (or_cases (holds_again_among n bs) (holds_again n g) h) [ inl y ↦ stands_in_each T env bs n k.3 y | inr y ↦ stands_in T env g n k.4 y ]
  stands_in T env (looped origin b g) n k h =
      elim (or_cases (holds_again (suc n) b) (holds_again n g) h) [ inl y ↦ (let lt = stands_in T ((λ r. takes_part (false ∷ at_rank r env) r b) ∷ env) b (suc n) k.0 y in omega arith) | inr y ↦ stands_in T env g n k.1 y ]
  stands_in T env (again m) n k h = subst (λ i. i < length env) (eqb-true m n h) k

  stands_in_each : (T : ℕ) (env : Env) (bs : Branches) (n : ℕ) → Keeps_each T env bs → holds_again_among n bs ≡ true → n < length env
  stands_in_each T env no_branch n k h = cc
  stands_in_each T env (branch mark b bs) n k h =
      elim (or_cases (holds_again n b) (holds_again_among n bs) h) [ inl y ↦ stands_in T env b n k.0 y | inr y ↦ stands_in_each T env bs n k.1 y ]

pub obeyed : (w : Setting) (protocol : Block) → Accepted w protocol → Obeys w.total protocol
obeyed w protocol a =
    let keeps =
    keeps_of w.total [] protocol a.formed
    (choices_of receives_only all_receives (says_receives []) w.total [] protocol a.receives)
    (choices_of keeps_source from_one says_source w.total [] protocol a.sources)
    (choices_of keeps_labels labels_fit (λ held r bs h. h) w.total [] protocol a.labels) in
    record {
      keeps = keeps;
      ends = ends_of protocol a.ends;
      people = continued w.total [] protocol (λ n e. absurd (let lt = stands_in w.total [] protocol n keeps e in omega arith)) (peopled_of w.total [] protocol a.peopled);
    }
