-- Lists of names of which none stands twice.
use Rattle.std.proofs.Common.{◌≡◌, ◌≢◌, ℕ, zero, suc, ◌<◌, true, false, List, [], ◌∷◌, ◌++◌, length, get_or, refl, sym, subst, ◌∙◌, arith}
use Rattle.std.proofs.lemmas.Slice.Eq.{bytes_eq-Decides}
use Rattle.std.proofs.lemmas.Bool.{or_from, or_parts, true≢false}
use Rattle.pb_core_language.specs.Names.{Name, same, is_named}
use Rattle.pb_local.specs.Names.{AreDistinct}
use Rattle.pb_compile_laws.proofs.Words.{swapped}

abbrev pub Distinct : List Name → Type 0
Distinct [] = Unit {0}
Distinct (x ∷ xs) = (is_named x xs ≡ false) × Distinct xs

named_push : (x : Name) (xs : List Name) (y : Name) → is_named x xs ≡ false → same x y ≡ false → is_named x (xs ++ y ∷ []) ≡ false
named_push x [] y h e = or_from _ _ e refl
named_push x (z ∷ xs) y h e = or_from _ _ (or_parts (same x z) (is_named x xs) h).0 (named_push x xs y (or_parts (same x z) (is_named x xs) h).1 e)

pub distinct_push : (xs : List Name) (y : Name) → Distinct xs → is_named y xs ≡ false → Distinct (xs ++ y ∷ [])
distinct_push [] y d h = (refl, tt)
distinct_push (x ∷ xs) y d h = (named_push x xs y d.0 (swapped y x (or_parts (same y x) (is_named y xs) h).0), distinct_push xs y d.1 (or_parts (same y x) (is_named y xs) h).1)

pub same_self : (x : Name) → same x x ≡ true
same_self x = (bytes_eq-Decides x x).1 refl

other_at : (x : Name) (xs : List Name) (j : ℕ) → is_named x xs ≡ false → j < length xs → x ≢ get_or xs j []
other_at x [] j h few e = absurd (omega (arith, few))
other_at x (y ∷ xs) zero h few e = true≢false (sym (subst (λ z. same x z ≡ true) e (same_self x)) ∙ (or_parts (same x y) (is_named x xs) h).0)
other_at x (y ∷ xs) (suc j) h few e = other_at x xs j (or_parts (same x y) (is_named x xs) h).1 (omega (arith, few)) e

pub are_distinct : (xs : List Name) → Distinct xs → AreDistinct xs
are_distinct [] d i j before few = absurd (omega (arith, few))
are_distinct (x ∷ xs) d zero zero before few = absurd (omega (arith, before))
are_distinct (x ∷ xs) d zero (suc j) before few = other_at x xs j d.0 (omega (arith, few))
are_distinct (x ∷ xs) d (suc i) zero before few = absurd (omega (arith, before))
are_distinct (x ∷ xs) d (suc i) (suc j) before few = are_distinct xs d.1 i j (omega (arith, before)) (omega (arith, few))
