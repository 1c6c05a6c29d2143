-- Marks whose numbers rise: two with one number are one.
use Rattle.std.proofs.Common.{◌≡◌, ℕ, suc, ◌≤◌, inl, inr, List, [], ◌∷◌, ◌++◌, sym, ap, ◌∙◌, arith}
use Rattle.pb_core_language.specs.Tree.{Mark}
use Rattle.pb_rules.proofs.Lists.{Has}

-- the numbers rise from s on, and all are below t
abbrev pub Rises : ℕ → ℕ → List Mark → Type 0
Rises s t [] = s ≤ t
Rises s t (m ∷ ms) = (s ≤ m.number) × Rises (suc m.number) t ms

pub lower : (r s t : ℕ) (ms : List Mark) → r ≤ s → Rises s t ms → Rises r t ms
lower r s t [] le h = omega (arith, le, h)
lower r s t (m ∷ ms) le h = let a = h.0 in (omega (arith, le, a), h.1)

pub rises_append : (s t u : ℕ) (xs ys : List Mark) → Rises s t xs → Rises t u ys → Rises s u (xs ++ ys)
rises_append s t u [] ys h k = lower s t u ys h k
rises_append s t u (x ∷ xs) ys h k = (h.0, rises_append (suc x.number) t u xs ys h.1 k)

above : (s t : ℕ) (ms : List Mark) (a : Mark) → Rises s t ms → Has ms a → s ≤ a.number
above s t [] a h k = absurd k
above s t (m ∷ ms) a h (inl e) = let b = h.0 in let n : m.number ≡ a.number = ap (λ (x : Mark). x.number) e in omega (arith, b, n)
above s t (m ∷ ms) a h (inr k) = let b = h.0 in let c = above (suc m.number) t ms a h.1 k in omega (arith, b, c)

pub one_mark : (s t : ℕ) (ms : List Mark) (a b : Mark) → Rises s t ms → Has ms a → Has ms b → a.number ≡ b.number → a ≡ b
one_mark s t [] a b h j k e = absurd j
one_mark s t (m ∷ ms) a b h (inl j) (inl k) e = sym j ∙ k
one_mark s t (m ∷ ms) a b h (inl j) (inr k) e =
    let c = above (suc m.number) t ms b h.1 k in
    let n : m.number ≡ a.number = ap (λ (x : Mark). x.number) j in
    absurd (omega (arith, c, n, e))
one_mark s t (m ∷ ms) a b h (inr j) (inl k) e =
    let c = above (suc m.number) t ms a h.1 j in
    let n : m.number ≡ b.number = ap (λ (x : Mark). x.number) k in
    absurd (omega (arith, c, n, e))
one_mark s t (m ∷ ms) a b h (inr j) (inr k) e = one_mark (suc m.number) t ms a b h.1 j k e
