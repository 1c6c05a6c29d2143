-- The tests on lists of outcomes are tests on the sets.
use Rattle.std.proofs.Common.{◌≡◌, ℕ, ◌==◌, Bool, true, false, not, ◌||◌, inl, inr, List, [], ◌∷◌, refl, ap, sym, ◌∙◌, subst}
use Rattle.std.proofs.lemmas.Bool.{and_parts, and_from, or_cases, or_left, or_right, eqb-true, eq-eqb, false_from_ne_true, false≢true}
use Rattle.pb_core_language.specs.Lists.{is_among, none_shared}
use Rattle.pb_core_language.specs.Outcomes.{Outcome, nothing_first, receives, other_first, again_first, only_from, source_of, labels_of}
use Rattle.pb_core_flat.specs.OutcomeSets.{outcome_eq, is_outcome}
use Rattle.pb_core_flat.specs.Laws.{OnlyReceivesIs, FromOneIs, LabelIs, NoneSharedIs}

-- ---- rule 10

true_or : (b c : Bool) → false ≡ not (b || (true || c))
true_or true c = refl
true_or false c = refl

true_last : (b c : Bool) → false ≡ not (b || (c || true))
true_last true c = refl
true_last false true = refl
true_last false false = refl

pub only_receives_is : OnlyReceivesIs
only_receives_is [] = refl
only_receives_is (receives s l ∷ os) = only_receives_is os
only_receives_is (nothing_first ∷ os) = refl
only_receives_is (other_first ∷ os) = true_or (is_outcome nothing_first os) (is_outcome again_first os)
only_receives_is (again_first ∷ os) = true_last (is_outcome nothing_first os) (is_outcome other_first os)

-- ---- rule 11

same_receive : (s l t k : ℕ) → outcome_eq (receives s l) (receives t k) ≡ true → (s ≡ t) × (l ≡ k)
same_receive s l t k h = let hs = and_parts (s == t) (l == k) h in (eqb-true s t hs.0, eqb-true l k hs.1)

self_receive : (s l : ℕ) → outcome_eq (receives s l) (receives s l) ≡ true
self_receive s l = and_from (s == s) (l == l) (eq-eqb s s refl) (eq-eqb l l refl)

from_gives : (p : ℕ) (os : List Outcome) → only_from p os ≡ true → (s l : ℕ) → is_outcome (receives s l) os ≡ true → s ≡ p
from_gives p [] h s l k = absurd (false≢true k)
from_gives p (receives t j ∷ os) h s l k =
    let hs = and_parts (t == p) (only_from p os) h in
    elim (or_cases (outcome_eq (receives t j) (receives s l)) (is_outcome (receives s l) os) k) [
      | inl e ↦ sym (same_receive t j s l e).0 ∙ eqb-true t p hs.0
      | inr e ↦ from_gives p os hs.1 s l e
    ]
from_gives p (nothing_first ∷ os) h s l k = from_gives p os h s l k
from_gives p (other_first ∷ os) h s l k = from_gives p os h s l k
from_gives p (again_first ∷ os) h s l k = from_gives p os h s l k

gives_from : (p : ℕ) (os : List Outcome) → ((s l : ℕ) → is_outcome (receives s l) os ≡ true → s ≡ p) → only_from p os ≡ true
gives_from p [] h = refl
gives_from p (receives t j ∷ os) h =
    and_from (t == p) (only_from p os) (eq-eqb t p (h t j (or_left (outcome_eq (receives t j) (receives t j)) (is_outcome (receives t j) os) (self_receive t j))))
    (gives_from p os (λ s l k. h s l (or_right (outcome_eq (receives t j) (receives s l)) (is_outcome (receives s l) os) k)))
gives_from p (nothing_first ∷ os) h = gives_from p os h
gives_from p (other_first ∷ os) h = gives_from p os h
gives_from p (again_first ∷ os) h = gives_from p os h

-- the first source is a source, where there is one
source_is : (os : List Outcome) (s l : ℕ) → is_outcome (receives s l) os ≡ true → (k : ℕ) × (is_outcome (receives (source_of os) k) os ≡ true)
source_is [] s l h = absurd (false≢true h)
source_is (receives t j ∷ os) s l h = (j, or_left (outcome_eq (receives t j) (receives t j)) (is_outcome (receives t j) os) (self_receive t j))
source_is (nothing_first ∷ os) s l h = source_is os s l h
source_is (other_first ∷ os) s l h = source_is os s l h
source_is (again_first ∷ os) s l h = source_is os s l h

pub from_one_is : FromOneIs
from_one_is os = (
  (λ h s l t k e f. from_gives (source_of os) os h s l e ∙ sym (from_gives (source_of os) os h t k f)),
  (λ h. gives_from (source_of os) os (λ s l e. let it = source_is os s l e in h s l (source_of os) it.0 e it.1)),
)

-- ---- rule 12

label_has : (os : List Outcome) (l : ℕ) → is_among l (labels_of os) ≡ true → (s : ℕ) × (is_outcome (receives s l) os ≡ true)
label_has [] l h = absurd (false≢true h)
label_has (receives t j ∷ os) l h =
    elim (or_cases (j == l) (is_among l (labels_of os)) h) [
      | inl e ↦ (t, or_left (outcome_eq (receives t j) (receives t l)) (is_outcome (receives t l) os) (and_from (t == t) (j == l) (eq-eqb t t refl) e))
      | inr e ↦ let it = label_has os l e in (it.0, or_right (outcome_eq (receives t j) (receives it.0 l)) (is_outcome (receives it.0 l) os) it.1)
    ]
label_has (nothing_first ∷ os) l h = label_has os l h
label_has (other_first ∷ os) l h = label_has os l h
label_has (again_first ∷ os) l h = label_has os l h

has_label : (os : List Outcome) (s l : ℕ) → is_outcome (receives s l) os ≡ true → is_among l (labels_of os) ≡ true
has_label [] s l h = absurd (false≢true h)
has_label (receives t j ∷ os) s l h =
    elim (or_cases (outcome_eq (receives t j) (receives s l)) (is_outcome (receives s l) os) h) [
      | inl e ↦ or_left (j == l) (is_among l (labels_of os)) (eq-eqb j l (same_receive t j s l e).1)
      | inr e ↦ or_right (j == l) (is_among l (labels_of os)) (has_label os s l e)
    ]
has_label (nothing_first ∷ os) s l h = has_label os s l h
has_label (other_first ∷ os) s l h = has_label os s l h
has_label (again_first ∷ os) s l h = has_label os s l h

pub label_is : LabelIs
label_is os l = (label_has os l, (λ h. has_label os h.0 l h.1))

not_true : (b : Bool) → not b ≡ true → b ≡ true → ⊥
not_true true h k = false≢true h
not_true false h k = false≢true k

shared_gives : (xs ys : List ℕ) → none_shared xs ys ≡ true → (l : ℕ) → is_among l xs ≡ true → is_among l ys ≡ true → ⊥
shared_gives [] ys h l e f = false≢true e
shared_gives (x ∷ xs) ys h l e f =
    let hs = and_parts (not (is_among x ys)) (none_shared xs ys) h in
    elim (or_cases (x == l) (is_among l xs) e) [
      | inl k ↦ not_true (is_among x ys) hs.0 (subst (λ z. is_among z ys ≡ true) (sym (eqb-true x l k)) f)
      | inr k ↦ shared_gives xs ys hs.1 l k f
    ]

gives_shared : (xs ys : List ℕ) → ((l : ℕ) → is_among l xs ≡ true → is_among l ys ≡ true → ⊥) → none_shared xs ys ≡ true
gives_shared [] ys h = refl
gives_shared (x ∷ xs) ys h =
    and_from (not (is_among x ys)) (none_shared xs ys)
    (ap not (false_from_ne_true (is_among x ys) (h x (or_left (x == x) (is_among x xs) (eq-eqb x x refl)))))
    (gives_shared xs ys (λ l e f. h l (or_right (x == l) (is_among l xs) e) f))

pub none_shared_is : NoneSharedIs
none_shared_is xs ys = (shared_gives xs ys, gives_shared xs ys)
