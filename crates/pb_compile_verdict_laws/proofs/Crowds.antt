-- A protocol with at most 4,096 breakpoints has no list of more.
use Rattle.std.proofs.Common.{◌≡◌, ℕ, zero, suc, ◌<◌, ◌≤◌, ℤ, pos, inl, inr, List, length, subst, ◌∙◌, arith}
use Rattle.std.proofs.lemmas.Int.{ints}
use Rattle.std.specs.Prelude.{Contains}
use Rattle.pb_cases.specs.Breakpoints.{HasTooMany}
use Rattle.pb_cases.specs.Numbers.{IsAscending, nth}
use Rattle.pb_cases.proofs.Sorted.{any_default, three}
use Rattle.pb_core_language.specs.Cuts.{cuts}
use Rattle.pb_core_language.specs.Plain.{Protocol}
use Rattle.pb_rules.specs.Verdict.{HasFewCases}

-- of ascending numbers that all stand in another ascending list
module _ (xs ys : List ℤ) (up : IsAscending xs) (other : IsAscending ys) (there : (k : ℕ) → k < length xs → Contains ys (nth xs k)) where
  never_down : (k i j : ℕ) → suc k < length xs → i < length ys → nth ys i ≡ nth xs k → nth ys j ≡ nth xs (suc k) → j < i → ⊥
  never_down k i j lt within e f less = let a = up.below k (suc k) (omega arith) lt in let b = other.below j i less within in omega (arith, ints, a, b, e, f)

  never_same : (k i j : ℕ) → suc k < length xs → nth ys i ≡ nth xs k → nth ys j ≡ nth xs (suc k) → j ≡ i → ⊥
  never_same k i j lt e f same =
      let a = up.below k (suc k) (omega arith) lt in
      let g : nth ys i ≡ nth xs (suc k) = subst (λ m. nth ys m ≡ nth xs (suc k)) same f in
      omega (arith, ints, a, e, g)

  -- none of them stands further in front
  behind : (k : ℕ) → k < length xs → (j : ℕ) × (k ≤ j) × (j < length ys) × (nth ys j ≡ nth xs k)
  behind zero lt = let c = there zero lt in (c.0, omega arith, c.1, any_default ys c.0 (pos 0) (nth xs zero) c.1 ∙ c.2)
  behind (suc k) lt =
      let b = behind k (omega (arith, lt)) in
      let c = there (suc k) lt in
      let is : nth ys c.0 ≡ nth xs (suc k) = any_default ys c.0 (pos 0) (nth xs (suc k)) c.1 ∙ c.2 in
      elim (three b.0 c.0) [
        | inl less ↦ absurd (never_down k b.0 c.0 lt b.2 b.3 is less)
        | inr rest ↦ elim rest [
          | inl same ↦ absurd (never_same k b.0 c.0 lt b.3 is same)
          | inr more ↦ let le = b.1 in (c.0, omega (arith, le, more), c.1, is)
        ]
      ]

  no_longer : (n : ℕ) → length xs ≡ n → length xs ≤ length ys
  no_longer zero e = omega (arith, e)
  no_longer (suc n) e = let b = behind n (omega (arith, e)) in let le = b.1 in let lt = b.2 in omega (arith, e, le, lt)

pub no_crowd : (p : Protocol) → HasFewCases p → HasTooMany p.range (cuts p) → ⊥
no_crowd p few many =
    let d = few.division in
    let le = no_longer many.list few.breakpoints many.ascending d.ascending (λ k lt. d.complete (nth many.list k) (many.sound k (pos 0) lt)) (length many.list) (omega arith) in
    let a = many.many in
    let b = few.few in
    omega (arith, le, a, b)
