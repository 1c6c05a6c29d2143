-- What there is for some rank, and for each.
use Rattle.std.proofs.Common.{◌≡◌, ℕ, zero, suc, ◌<◌, Bool, true, ◌⊎◌, inl, inr, List, [], subst, arith}
use Rattle.std.specs.List.{Contains}
use Rattle.std.proofs.lemmas.Bool.{or_cases, or_left, or_right, false≢true}
use Rattle.std.proofs.lemmas.List.Elements.{Contains-append_left, Contains-append_right, Contains-append_cases}
use Rattle.pb_core_language.specs.Lists.{some_below, over_below}
use Rattle.pb_core_flat.specs.Laws.{SomeBelowIs, OverBelowIs}

last_or_below : (r n : ℕ) → r < suc n → (r ≡ n) ⊎ (r < n)
last_or_below r n h = grind arith

some_gives : (T : ℕ) (f : ℕ → Bool) → some_below T f ≡ true → (r : ℕ) × (r < T) × (f r ≡ true)
some_gives zero f h = absurd (false≢true h)
some_gives (suc n) f h =
    elim (or_cases (f n) (some_below n f) h) [ inl e ↦ (n, omega arith, e) | inr e ↦ let it = some_gives n f e in (it.0, (let lt = it.1 in omega arith), it.2) ]

gives_some : (T : ℕ) (f : ℕ → Bool) (r : ℕ) → r < T → f r ≡ true → some_below T f ≡ true
gives_some zero f r lt h = absurd (omega arith)
gives_some (suc n) f r lt h =
    elim (last_or_below r n lt) [
      | inl e ↦ or_left (f n) (some_below n f) (subst (λ z. f z ≡ true) e h)
      | inr e ↦ or_right (f n) (some_below n f) (gives_some n f r e h)
    ]

pub some_below_is : SomeBelowIs
some_below_is T f = (some_gives T f, (λ h. gives_some T f h.0 h.1 h.2))

none_contained : {A : Type 0} (x : A) → Contains [] x → ⊥
none_contained x h = no_less h.0 h.1 where
  no_less : (k : ℕ) → k < 0 → ⊥
  no_less k lt = omega arith

over_gives : {A : Type 0} (T : ℕ) (f : ℕ → List A) (x : A) → Contains (over_below T f) x → (r : ℕ) × (r < T) × Contains (f r) x
over_gives zero f x h = absurd (none_contained x h)
over_gives (suc n) f x h =
    elim (Contains-append_cases (over_below n f) (f n) x h) [
      | inl e ↦ let it = over_gives n f x e in (it.0, (let lt = it.1 in omega arith), it.2)
      | inr e ↦ (n, omega arith, e)
    ]

gives_over : {A : Type 0} (T : ℕ) (f : ℕ → List A) (x : A) (r : ℕ) → r < T → Contains (f r) x → Contains (over_below T f) x
gives_over zero f x r lt h = absurd (omega arith)
gives_over (suc n) f x r lt h =
    elim (last_or_below r n lt) [
      | inl e ↦ Contains-append_right (over_below n f) (f n) x (subst (λ z. Contains (f z) x) e h)
      | inr e ↦ Contains-append_left (over_below n f) (f n) x (gives_over n f x r e h)
    ]

pub over_below_is : OverBelowIs
over_below_is T f x = (over_gives T f x, (λ h. gives_over T f x h.0 h.1 h.2))
