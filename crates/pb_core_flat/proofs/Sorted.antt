-- Ends by falling offset.
use Rattle.std.proofs.Common.{◌≡◌, ℤ, int_le, cond, Bool, true, false, if◌then◌else◌, List, [], ◌∷◌, refl, ap, ◌∙◌, arith}
use Rattle.std.specs.List.{list_all}
use Rattle.std.specs.Ordering.{int_eq}
use Rattle.std.proofs.lemmas.Bool.{and_parts, and_from}
use Rattle.std.proofs.lemmas.Int.{ints}
use Rattle.pb_core_flat.specs.Stops.{Visit, off_of, falling, with_off, put_in, by_falling}
use Rattle.pb_core_flat.specs.Laws.{SortedByFalling}

abbrev pub at_most : ℤ → List Visit → Bool
at_most c vs = list_all (λ w. int_le (off_of w) c) vs

le_trans : (a b c : ℤ) → int_le a b ≡ true → int_le b c ≡ true → int_le a c ≡ true
le_trans a b c h k = grind (arith, ints)

pub more_than : (a b : ℤ) → int_le a b ≡ false → int_le b a ≡ true
more_than a b h = grind (arith, ints)

pub at_most_more : (c d : ℤ) (vs : List Visit) → int_le c d ≡ true → at_most c vs ≡ true → at_most d vs ≡ true
at_most_more c d [] h k = refl
at_most_more c d (v ∷ vs) h k =
    let ks = and_parts (int_le (off_of v) c) (at_most c vs) k in
    and_from (int_le (off_of v) d) (at_most d vs) (le_trans (off_of v) c d ks.0 h) (at_most_more c d vs h ks.1)

put_at_most : (c : ℤ) (v : Visit) (vs : List Visit) → int_le (off_of v) c ≡ true → at_most c vs ≡ true → at_most c (put_in v vs) ≡ true
put_at_most c v [] h k = and_from (int_le (off_of v) c) true h refl
put_at_most c v (w ∷ ws) h k =
    let ks = and_parts (int_le (off_of w) c) (at_most c ws) k in
    by_test (int_le (off_of w) (off_of v)) (and_from (int_le (off_of w) c) (at_most c (put_in v ws)) ks.0 (put_at_most c v ws h ks.1)) where
      by_test : (t : Bool) → at_most c (w ∷ put_in v ws) ≡ true → at_most c (if t then v ∷ w ∷ ws else w ∷ put_in v ws) ≡ true
      by_test true e = and_from (int_le (off_of v) c) (at_most c (w ∷ ws)) h k
      by_test false e = e

put_falls : (v : Visit) (vs : List Visit) → falling vs ≡ true → falling (put_in v vs) ≡ true
put_falls v [] h = refl
put_falls v (w ∷ ws) h =
    let hs = and_parts (at_most (off_of w) ws) (falling ws) h in
    by_test (int_le (off_of w) (off_of v)) refl hs.0 (put_falls v ws hs.1) where
      by_test : (t : Bool) → int_le (off_of w) (off_of v) ≡ t → at_most (off_of w) ws ≡ true → falling (put_in v ws) ≡ true → falling (if t then v ∷ w ∷ ws else w ∷ put_in v ws) ≡ true
      by_test true e k f =
          and_from (at_most (off_of v) (w ∷ ws)) (falling (w ∷ ws))
          (and_from (int_le (off_of w) (off_of v)) (at_most (off_of v) ws) e (at_most_more (off_of w) (off_of v) ws e k)) h
      by_test false e k f =
          and_from (at_most (off_of w) (put_in v ws)) (falling (put_in v ws)) (put_at_most (off_of w) v ws (more_than (off_of w) (off_of v) e) k) f

not_both : (a b c : ℤ) → int_le a b ≡ false → int_eq a c ≡ true → int_eq b c ≡ false
not_both a b c h k = grind (arith, ints)

swapped : (s t : Bool) (v w : Visit) (vs : List Visit) → (s ≡ true → t ≡ false) → cond s (w ∷ cond t (v ∷ vs) vs) (cond t (v ∷ vs) vs) ≡ cond t (v ∷ cond s (w ∷ vs) vs) (cond s (w ∷ vs) vs)
swapped true true v w vs h = absurd (true_false (h refl)) where
  true_false : true ≡ false → ⊥
  true_false e = cc
swapped true false v w vs h = refl
swapped false true v w vs h = refl
swapped false false v w vs h = refl

put_same : (c : ℤ) (v : Visit) (vs : List Visit) → with_off c (put_in v vs) ≡ with_off c (v ∷ vs)
put_same c v [] = refl
put_same c v (w ∷ ws) = by_test (int_le (off_of w) (off_of v)) refl (put_same c v ws) where
  by_test : (t : Bool) → int_le (off_of w) (off_of v) ≡ t → with_off c (put_in v ws) ≡ with_off c (v ∷ ws) → with_off c (if t then v ∷ w ∷ ws else w ∷ put_in v ws) ≡ with_off c (v ∷ w ∷ ws)
  by_test true e h = refl
  by_test false e h =
      ap (λ z. cond (int_eq (off_of w) c) (w ∷ z) z) h
      ∙ swapped (int_eq (off_of w) c) (int_eq (off_of v) c) v w (with_off c ws) (not_both (off_of w) (off_of v) c e)

by_falling_falls : (vs : List Visit) → falling (by_falling vs) ≡ true
by_falling_falls [] = refl
by_falling_falls (v ∷ vs) = put_falls v (by_falling vs) (by_falling_falls vs)

by_falling_same : (c : ℤ) (vs : List Visit) → with_off c (by_falling vs) ≡ with_off c vs
by_falling_same c [] = refl
by_falling_same c (v ∷ vs) = put_same c v (by_falling vs) ∙ ap (λ z. cond (int_eq (off_of v) c) (v ∷ z) z) (by_falling_same c vs)

pub sorted_by_falling : SortedByFalling
sorted_by_falling vs = record { falls = by_falling_falls vs; same = λ c. by_falling_same c vs }
