-- What a set of names does with one more name, in the words of a table.
use Rattle.std.proofs.Common.{◌≡◌, ℕ, suc, ◌+◌, List, [], ◌∷◌, ◌++◌, length, refl, sym, ap, subst, ◌∙◌, arith, Bool, true, false, cond, nat_eq, nat_lt, Some, None, MatchOption, if◌then◌else◌, ◌||◌, not}
use Rattle.std.specs.List.{list_any, position_or_len}
use Rattle.std.specs.Cmp.Lexicographic.{pointwise}
use Rattle.std.proofs.lemmas.Bool.{lt-ltb, ltb-true, ltb_from_iff}
use Rattle.pb_text.specs.Tables.{IsInterned}
use Rattle.pb_text.specs.contracts.name.NamePartialEq.TheImpl.{eq-value}
use Rattle.pb_text.proofs.Same.{same_test}

any_placed : {A : Type 0} (p : A → Bool) (xs : List A) → list_any p xs ≡ nat_lt (position_or_len p xs) (length xs)
any_placed p [] = refl
any_placed p (x ∷ xs) = at (p x) (any_placed p xs)
  where
    at : (b : Bool) → list_any p xs ≡ nat_lt (position_or_len p xs) (length xs)
        → (b || list_any p xs) ≡ nat_lt (cond (not b) (1 + position_or_len p xs) 0) (suc (length xs))
    at true h = sym (lt-ltb 0 (suc (length xs)) (omega arith))
    at false h =
        h ∙ ltb_from_iff (λ t. omega (arith, ltb-true (position_or_len p xs) (length xs) t), λ l. lt-ltb (position_or_len p xs) (length xs) (omega arith))

absent_last : {A : Type 0} (p : A → Bool) (xs : List A) → list_any p xs ≡ false → position_or_len p xs ≡ length xs
absent_last p [] h = refl
absent_last p (x ∷ xs) h = at (p x) (absent_last p xs) h
  where
    at : (b : Bool) → (list_any p xs ≡ false → position_or_len p xs ≡ length xs) → (b || list_any p xs) ≡ false
        → cond (not b) (1 + position_or_len p xs) 0 ≡ suc (length xs)
    at true rest h = cc
    at false rest h = let e : position_or_len p xs ≡ length xs = rest h in omega arith

placed : (there : Bool) (place : ℕ) (old : List (List ℕ)) (name : List ℕ) (id : ℕ) (new : List (List ℕ))
    → (there ≡ false → place ≡ length old) → id ≡ place → new ≡ (if there then old else old ++ name ∷ [])
    → MatchOption (cond there (Some place) None) ((id ≡ length old) × (new ≡ old ++ name ∷ [])) (λ k. (id ≡ k) × (new ≡ old))
placed true place old name id new last at made = (at, made)
placed false place old name id new last at made = (at ∙ last refl, made)

pub interned : (old : List (List ℕ)) (name : List ℕ) (id : ℕ) (new : List (List ℕ))
    → id ≡ position_or_len (eq-value.it name) old → new ≡ (if list_any (eq-value.it name) old then old else old ++ name ∷ [])
    → IsInterned old name id new
interned old name id new at made =
    let test = pointwise nat_eq name in
    let at_by : id ≡ position_or_len test old = at ∙ ap (λ t. position_or_len t old) (same_test name) in
    let made_by : new ≡ (if list_any test old then old else old ++ name ∷ []) = made ∙ ap (λ t. if list_any t old then old else old ++ name ∷ []) (same_test name) in
    subst (λ b. MatchOption (cond b (Some (position_or_len test old)) None) ((id ≡ length old) × (new ≡ old ++ name ∷ [])) (λ k. (id ≡ k) × (new ≡ old)))
    (any_placed test old)
    (placed (list_any test old) (position_or_len test old) old name id new (absent_last test old) at_by made_by)
