-- Where a name stands among names.
use Rattle.std.proofs.Common.{◌≡◌, ℕ, suc, ◌+◌, ◌<◌, ◌≤◌, Bool, true, false, cond, not, nat_eq, nat_lt, ◌||◌, if◌then◌else◌, Some, None, MatchOption, List, [], ◌∷◌, ◌++◌, length, refl, sym, ap, ◌∙◌, arith, length-append}
use Rattle.std.proofs.lemmas.Bool.Decides.{nat_tests}
use Rattle.std.specs.List.{position_or_len}
use Rattle.std.specs.Cmp.Lexicographic.{pointwise}
use Rattle.pb_text.specs.Tables as T
use Rattle.pb_text.specs.Tables.{IsInterned}
use Rattle.pb_core_language.specs.Names.{Name, same, is_named}
use Rattle.pb_core_language.specs.Meaning.{position_of}

at_or_len : (x : Name) (ys : List Name) → position_or_len (pointwise nat_eq x) ys ≡ position_of x ys
at_or_len x [] = refl
at_or_len x (y ∷ ys) = at (same x y) (at_or_len x ys)
  where
    at : (b : Bool) → position_or_len (pointwise nat_eq x) ys ≡ position_of x ys → cond (not b) (1 + position_or_len (pointwise nat_eq x) ys) 0 ≡ (if b then 0 else suc (position_of x ys))
    at true h = refl
    at false h = omega (arith, h)

pub within : (x : Name) (ys : List Name) → position_of x ys ≤ length ys
within x [] = omega arith
within x (y ∷ ys) = at (same x y) (within x ys)
  where
    at : (b : Bool) → position_of x ys ≤ length ys → (if b then 0 else suc (position_of x ys)) ≤ suc (length ys)
    at true h = omega arith
    at false h = omega (arith, h)

pub absent_last : (x : Name) (ys : List Name) → is_named x ys ≡ false → length ys ≡ position_of x ys
absent_last x [] h = refl
absent_last x (y ∷ ys) h = at (same x y) (absent_last x ys) h
  where
    at : (b : Bool) → (is_named x ys ≡ false → length ys ≡ position_of x ys) → (b || is_named x ys) ≡ false → suc (length ys) ≡ (if b then 0 else suc (position_of x ys))
    at true rest h = absurd (grind arith)
    at false rest h = ap suc (rest h)

pub named_within : (x : Name) (ys : List Name) → is_named x ys ≡ true → position_of x ys < length ys
named_within x [] h = absurd (grind arith)
named_within x (y ∷ ys) h = at (same x y) (named_within x ys) h
  where
    at : (b : Bool) → (is_named x ys ≡ true → position_of x ys < length ys) → (b || is_named x ys) ≡ true → (if b then 0 else suc (position_of x ys)) < suc (length ys)
    at true rest h = omega arith
    at false rest h = let e : position_of x ys < length ys = rest h in omega (arith, e)

found_by : (b : Bool) (p k : ℕ) → cond b (Some p) None ≡ Some k → k ≡ p
found_by true p k e = grind arith
found_by false p k e = absurd (grind arith)

pub there : (x : Name) (ys : List Name) (k : ℕ) → T.position_of x ys ≡ Some k → k ≡ position_of x ys
there x ys k e = found_by (nat_lt (position_or_len (pointwise nat_eq x) ys) (length ys)) (position_or_len (pointwise nat_eq x) ys) k e ∙ at_or_len x ys

lacks_by : (b : Bool) (p : ℕ) → cond b (Some p) None ≡ None → b ≡ false
lacks_by true p e = absurd (grind arith)
lacks_by false p e = refl

all_behind : (p q n : ℕ) → nat_lt p n ≡ false → p ≡ q → q ≤ n → n ≡ q
all_behind p q n h e le = grind (arith, nat_tests)

pub absent : (x : Name) (ys : List Name) → T.position_of x ys ≡ None → length ys ≡ position_of x ys
absent x ys e =
    let p = position_or_len (pointwise nat_eq x) ys in
    all_behind p (position_of x ys) (length ys) (lacks_by (nat_lt p (length ys)) p e) (at_or_len x ys) (within x ys)

last_by : (b : Bool) (p id : ℕ) (old new : List Name) (x : Name) → (b ≡ true → ⊥) →
    MatchOption (cond b (Some p) None) ((id ≡ length old) × (new ≡ old ++ x ∷ [])) (λ place. (id ≡ place) × (new ≡ old)) → new ≡ old ++ (x ∷ [])
last_by true p id old new x no_b h = absurd (no_b refl)
last_by false p id old new x no_b h = h.1

not_before : (p q n : ℕ) → p ≡ q → q ≡ n → nat_lt p n ≡ true → ⊥
not_before p q n e last h = grind (arith, nat_tests)

pub interned_last : (old new : List Name) (x : Name) (id : ℕ) → position_of x old ≡ length old → IsInterned old x id new → new ≡ old ++ (x ∷ [])
interned_last old new x id last h =
    let p = position_or_len (pointwise nat_eq x) old in
    last_by (nat_lt p (length old)) p id old new x (not_before p (position_of x old) (length old) (at_or_len x old) last) h

pub one_more : (old new : List Name) (x : Name) (count : ℕ) → new ≡ old ++ (x ∷ []) → count ≡ length old → count + 1 ≡ length new
one_more old new x count n k = ap (λ c. c + 1) k ∙ sym (ap length n ∙ length-append old (x ∷ []))
