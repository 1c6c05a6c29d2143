-- One element of a list is written, or added.
use Rattle.std.proofs.Common.{◌≡◌, ◌<◌, ℕ, zero, suc, true, false, cond, nat_eq, ◌⊎◌, inl, inr, Option, Some, None, List, [], ◌∷◌, ◌++◌, length, get_or, refl, ap, ◌∙◌, arith, get_or-set_same, get_or-set_other}
use Rattle.std.specs.List.{slice_get}
use Rattle.std.proofs.Math.ListN.{set}
use Rattle.std.proofs.lemmas.Bool.{cases_eq, eq-eqb}

pub get_set : {X : Type 0} (xs : List X) (r : ℕ) (x : X) (q : ℕ) → r < length xs → slice_get (set xs r x) q ≡ cond (nat_eq q r) (Some x) (slice_get xs q)
get_set [] r x q h = absurd (omega (arith, h))
get_set (y ∷ xs) zero x zero h = refl
get_set (y ∷ xs) zero x (suc q) h = let e : nat_eq (suc q) 0 ≡ false = grind arith in rw e refl
get_set (y ∷ xs) (suc r) x zero h = let e : nat_eq 0 (suc r) ≡ false = grind arith in rw e refl
get_set (y ∷ xs) (suc r) x (suc q) h = let e : nat_eq (suc q) (suc r) ≡ nat_eq q r = grind arith in rw e (get_set xs r x q (omega (arith, h)))

pub not_same : (q r : ℕ) → (q ≡ r → ⊥) → nat_eq q r ≡ false
not_same q r h = grind (arith, h)

pub at_set : {X : Type 0} (xs : List X) (r : ℕ) (x : X) (q : ℕ) (d : X) → r < length xs → get_or (set xs r x) q d ≡ cond (nat_eq q r) x (get_or xs q d)
at_set xs r x q d h = elim (cases_eq q r) [ inl e ↦ same e | inr e ↦ other e ] where
  same : q ≡ r → get_or (set xs r x) q d ≡ cond (nat_eq q r) x (get_or xs q d)
  same e = let b : nat_eq q r ≡ true = eq-eqb q r e in rw b (ap (λ k. get_or (set xs r x) k d) e ∙ get_or-set_same xs r x d h)

  other : (q ≡ r → ⊥) → get_or (set xs r x) q d ≡ cond (nat_eq q r) x (get_or xs q d)
  other e = let b : nat_eq q r ≡ false = not_same q r e in rw b (get_or-set_other xs r q x d e)

pub get_pushed : {A : Type 0} (xs : List A) (y : A) (k : ℕ) (z : A) → slice_get (xs ++ y ∷ []) k ≡ Some z → (slice_get xs k ≡ Some z) ⊎ ((k ≡ length xs) × (y ≡ z))
get_pushed [] y zero z e = inr (refl, same e) where
  same : Some y ≡ Some z → y ≡ z
  same e = cc
get_pushed {A} [] y (suc k) z e = absurd (clash e) where
  clash : ◌≡◌ {A = Option A} None (Some z) → ⊥
  clash e = cc
get_pushed (x ∷ xs) y zero z e = inl e
get_pushed (x ∷ xs) y (suc k) z e = elim (get_pushed xs y k z e) [ inl h ↦ inl h | inr h ↦ inr (ap suc h.0, h.1) ]
