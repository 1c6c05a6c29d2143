-- Lists of outcomes, and the sets that they are.
use Rattle.std.proofs.Common.{◌≡◌, List, [], ◌∷◌, ◌++◌, Bool, true, false, not, ◌||◌, ◌&&◌, refl, ap, sym, ◌∙◌, append_assoc, append-nil, arith}
use Rattle.std.proofs.lemmas.Bool.Decides.{nat_tests}
use Rattle.std.proofs.Math.Bool.{and-false, or_assoc}
use Rattle.pb_core_language.specs.Outcomes.{Outcome, nothing_first, receives, other_first, again_first, or_then}
use Rattle.pb_core_flat.specs.OutcomeSets.{outcome_eq, is_nothing, is_outcome}
use Rattle.pb_core_flat.specs.Laws.{EitherOutcome}

-- ---- as lists

pub or_then_append : (xs ys rest : List Outcome) → or_then (xs ++ ys) rest ≡ or_then xs rest ++ or_then ys rest
or_then_append [] ys rest = refl
or_then_append (nothing_first ∷ xs) ys rest = ap (λ z. rest ++ z) (or_then_append xs ys rest) ∙ sym (append_assoc rest (or_then xs rest) (or_then ys rest))
or_then_append (receives s l ∷ xs) ys rest = ap (λ z. receives s l ∷ z) (or_then_append xs ys rest)
or_then_append (other_first ∷ xs) ys rest = ap (λ z. other_first ∷ z) (or_then_append xs ys rest)
or_then_append (again_first ∷ xs) ys rest = ap (λ z. again_first ∷ z) (or_then_append xs ys rest)

pub or_then_assoc : (xs ys zs : List Outcome) → or_then (or_then xs ys) zs ≡ or_then xs (or_then ys zs)
or_then_assoc [] ys zs = refl
or_then_assoc (nothing_first ∷ xs) ys zs = or_then_append ys (or_then xs ys) zs ∙ ap (λ t. or_then ys zs ++ t) (or_then_assoc xs ys zs)
or_then_assoc (receives s l ∷ xs) ys zs = ap (λ t. receives s l ∷ t) (or_then_assoc xs ys zs)
or_then_assoc (other_first ∷ xs) ys zs = ap (λ t. other_first ∷ t) (or_then_assoc xs ys zs)
or_then_assoc (again_first ∷ xs) ys zs = ap (λ t. again_first ∷ t) (or_then_assoc xs ys zs)

pub or_then_left : (xs : List Outcome) → or_then (nothing_first ∷ []) xs ≡ xs
or_then_left xs = append-nil xs

pub or_then_right : (xs : List Outcome) → or_then xs (nothing_first ∷ []) ≡ xs
or_then_right [] = refl
or_then_right (nothing_first ∷ xs) = ap (λ t. nothing_first ∷ t) (or_then_right xs)
or_then_right (receives s l ∷ xs) = ap (λ t. receives s l ∷ t) (or_then_right xs)
or_then_right (other_first ∷ xs) = ap (λ t. other_first ∷ t) (or_then_right xs)
or_then_right (again_first ∷ xs) = ap (λ t. again_first ∷ t) (or_then_right xs)

-- ---- as sets

pub is_append : (xs ys : List Outcome) (o : Outcome) → is_outcome o (xs ++ ys) ≡ is_outcome o xs || is_outcome o ys
is_append [] ys o = refl
is_append (p ∷ xs) ys o = ap (λ z. outcome_eq p o || z) (is_append xs ys o) ∙ sym (or_assoc (outcome_eq p o) (is_outcome o xs) (is_outcome o ys))

nothing_is : (o : Outcome) → outcome_eq nothing_first o ≡ is_nothing o
nothing_is nothing_first = refl
nothing_is (receives s l) = refl
nothing_is other_first = refl
nothing_is again_first = refl

nothing_step : (e n r a b q : Bool) → e ≡ n → q ≡ (not n && a) || (b && r) → r || q ≡ (not n && (e || a)) || ((true || b) && r)
nothing_step e n r a b q h k = grind (arith, nat_tests)

other_step : (e n r a b q : Bool) → (e && n) ≡ false → q ≡ (not n && a) || (b && r) → e || q ≡ (not n && (e || a)) || ((false || b) && r)
other_step e n r a b q h k = grind (arith, nat_tests)

pub either_outcome : EitherOutcome
either_outcome o [] rest = none (not (is_nothing o)) where
  none : (n : Bool) → false ≡ (n && false) || (false && is_outcome o rest)
  none true = refl
  none false = refl
either_outcome o (nothing_first ∷ os) rest =
    is_append rest (or_then os rest) o
    ∙ nothing_step (outcome_eq nothing_first o) (is_nothing o) (is_outcome o rest) (is_outcome o os) (is_outcome nothing_first os) (is_outcome o (or_then os rest)) (nothing_is o) (either_outcome o os rest)
either_outcome o (receives s l ∷ os) rest =
    other_step (outcome_eq (receives s l) o) (is_nothing o) (is_outcome o rest) (is_outcome o os) (is_outcome nothing_first os) (is_outcome o (or_then os rest)) (apart o) (either_outcome o os rest) where
      apart : (o : Outcome) → (outcome_eq (receives s l) o && is_nothing o) ≡ false
      apart nothing_first = refl
      apart (receives t k) = and-false (outcome_eq (receives s l) (receives t k))
      apart other_first = refl
      apart again_first = refl
either_outcome o (other_first ∷ os) rest =
    other_step (outcome_eq other_first o) (is_nothing o) (is_outcome o rest) (is_outcome o os) (is_outcome nothing_first os) (is_outcome o (or_then os rest)) (apart o) (either_outcome o os rest) where
      apart : (o : Outcome) → (outcome_eq other_first o && is_nothing o) ≡ false
      apart nothing_first = refl
      apart (receives t k) = refl
      apart other_first = refl
      apart again_first = refl
either_outcome o (again_first ∷ os) rest =
    other_step (outcome_eq again_first o) (is_nothing o) (is_outcome o rest) (is_outcome o os) (is_outcome nothing_first os) (is_outcome o (or_then os rest)) (apart o) (either_outcome o os rest) where
      apart : (o : Outcome) → (outcome_eq again_first o && is_nothing o) ≡ false
      apart nothing_first = refl
      apart (receives t k) = refl
      apart other_first = refl
      apart again_first = refl
