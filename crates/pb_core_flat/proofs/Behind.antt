-- An end put behind those with the same offset or a greater one.
use Rattle.std.proofs.Common.{◌≡◌, ℕ, suc, ◌+◌, ℤ, int_le, cond, Bool, true, false, if◌then◌else◌, List, [], ◌∷◌, ◌++◌, take, drop, refl, ap, sym, ◌∙◌, arith}
use Rattle.std.specs.List.{prefix_len}
use Rattle.std.specs.Ordering.{int_eq}
use Rattle.std.proofs.lemmas.Bool.{and_parts, and_from}
use Rattle.std.proofs.lemmas.List.Elements.{filter-append}
use Rattle.std.proofs.lemmas.Int.{ints}
use Rattle.pb_core_flat.specs.Stops.{Visit, off_of, falling, with_off, put_behind}
use Rattle.pb_core_flat.specs.Laws.{PutBehind, PutBehindIs}
use Rattle.pb_core_flat.proofs.Sorted.{at_most, at_most_more, more_than}

behind_at_most : (c : ℤ) (v : Visit) (vs : List Visit) → int_le (off_of v) c ≡ true → at_most c vs ≡ true → at_most c (put_behind v vs) ≡ true
behind_at_most c v [] h k = and_from (int_le (off_of v) c) true h refl
behind_at_most c v (w ∷ ws) h k =
    let ks = and_parts (int_le (off_of w) c) (at_most c ws) k in
    by_test (int_le (off_of v) (off_of w)) (and_from (int_le (off_of w) c) (at_most c (put_behind v ws)) ks.0 (behind_at_most c v ws h ks.1)) where
      by_test : (t : Bool) → at_most c (w ∷ put_behind v ws) ≡ true → at_most c (if t then w ∷ put_behind v ws else v ∷ w ∷ ws) ≡ true
      by_test true e = e
      by_test false e = and_from (int_le (off_of v) c) (at_most c (w ∷ ws)) h k

behind_falls : (v : Visit) (vs : List Visit) → falling vs ≡ true → falling (put_behind v vs) ≡ true
behind_falls v [] h = refl
behind_falls v (w ∷ ws) h =
    let hs = and_parts (at_most (off_of w) ws) (falling ws) h in
    by_test (int_le (off_of v) (off_of w)) refl hs.0 (behind_falls v ws hs.1) where
      by_test : (t : Bool) → int_le (off_of v) (off_of w) ≡ t → at_most (off_of w) ws ≡ true → falling (put_behind v ws) ≡ true → falling (if t then w ∷ put_behind v ws else v ∷ w ∷ ws) ≡ true
      by_test true e k f = and_from (at_most (off_of w) (put_behind v ws)) (falling (put_behind v ws)) (behind_at_most (off_of w) v ws e k) f
      by_test false e k f =
          and_from (at_most (off_of v) (w ∷ ws)) (falling (w ∷ ws))
          (and_from (int_le (off_of w) (off_of v)) (at_most (off_of v) ws) (more_than (off_of v) (off_of w) e) (at_most_more (off_of w) (off_of v) ws (more_than (off_of v) (off_of w) e) k)) h

none_equal : (a b c d : ℤ) → int_le a b ≡ false → int_eq a c ≡ true → int_le d b ≡ true → int_eq d c ≡ false
none_equal a b c d h k l = grind (arith, ints)

none_with : (b c : ℤ) (v : Visit) (vs : List Visit) → int_le (off_of v) b ≡ false → int_eq (off_of v) c ≡ true → at_most b vs ≡ true → with_off c vs ≡ []
none_with b c v [] h k l = refl
none_with b c v (w ∷ ws) h k l =
    let ls = and_parts (int_le (off_of w) b) (at_most b ws) l in
    ap (λ t. cond t (w ∷ with_off c ws) (with_off c ws)) (none_equal (off_of v) b c (off_of w) h k ls.0) ∙ none_with b c v ws h k ls.1

int_le_self : (a : ℤ) → int_le a a ≡ true
int_le_self a = grind (arith, ints)

last_one : (c : ℤ) (v : Visit) (vs : List Visit) (t : Bool) → (t ≡ true → with_off c vs ≡ []) → cond t (v ∷ with_off c vs) (with_off c vs) ≡ with_off c vs ++ cond t (v ∷ []) []
last_one c v vs true h = ap (λ z. v ∷ z) (h refl) ∙ ap (λ z. z ++ v ∷ []) (sym (h refl))
last_one c v vs false h = sym (append_nil (with_off c vs)) where
  append_nil : {A : Type 0} (xs : List A) → xs ++ [] ≡ xs
  append_nil [] = refl
  append_nil (x ∷ xs) = ap (λ z. x ∷ z) (append_nil xs)

cond_append : {A : Type 0} (t : Bool) (w : A) (xs ys : List A) → cond t (w ∷ xs ++ ys) (xs ++ ys) ≡ cond t (w ∷ xs) xs ++ ys
cond_append true w xs ys = refl
cond_append false w xs ys = refl

behind_same : (c : ℤ) (v : Visit) (vs : List Visit) → falling vs ≡ true → with_off c (put_behind v vs) ≡ with_off c vs ++ with_off c (v ∷ [])
behind_same c v [] h = refl
behind_same c v (w ∷ ws) h =
    let hs = and_parts (at_most (off_of w) ws) (falling ws) h in
    by_test (int_le (off_of v) (off_of w)) refl hs.0 (behind_same c v ws hs.1) where
      by_test : (t : Bool) → int_le (off_of v) (off_of w) ≡ t → at_most (off_of w) ws ≡ true → with_off c (put_behind v ws) ≡ with_off c ws ++ with_off c (v ∷ []) →
          with_off c (if t then w ∷ put_behind v ws else v ∷ w ∷ ws) ≡ with_off c (w ∷ ws) ++ with_off c (v ∷ [])
      by_test true e k f =
          ap (λ z. cond (int_eq (off_of w) c) (w ∷ z) z) f ∙ cond_append (int_eq (off_of w) c) w (with_off c ws) (with_off c (v ∷ []))
      by_test false e k f =
          last_one c v (w ∷ ws) (int_eq (off_of v) c)
          (λ g. none_with (off_of w) c v (w ∷ ws) e g (and_from (int_le (off_of w) (off_of w)) (at_most (off_of w) ws) (int_le_self (off_of w)) k))

pub put_behind_sorts : PutBehind
put_behind_sorts sorted vs v s = record {
  falls = behind_falls v sorted s.falls;
  same = λ c. behind_same c v sorted s.falls ∙ ap (λ z. z ++ with_off c (v ∷ [])) (s.same c) ∙ sym (filter-append (λ w. int_eq (off_of w) c) vs (v ∷ []));
}

one_and : (k : ℕ) → 1 + k ≡ suc k
one_and k = omega arith

place_step : (t : Bool) (v w : Visit) (ws rest : List Visit) (k : ℕ) → rest ≡ take k ws ++ v ∷ drop k ws →
    (if t then w ∷ rest else v ∷ w ∷ ws) ≡ take (cond t (1 + k) 0) (w ∷ ws) ++ v ∷ drop (cond t (1 + k) 0) (w ∷ ws)
place_step true v w ws rest k h = ap (λ z. w ∷ z) h ∙ ap (λ j. take j (w ∷ ws) ++ v ∷ drop j (w ∷ ws)) (sym (one_and k))
place_step false v w ws rest k h = refl

pub put_behind_is : PutBehindIs
put_behind_is test v [] h = refl
put_behind_is test v (w ∷ ws) h =
    ap (λ t. if t then w ∷ put_behind v ws else v ∷ w ∷ ws) (sym (h w))
    ∙ place_step (test w) v w ws (put_behind v ws) (prefix_len test ws) (put_behind_is test v ws h)
