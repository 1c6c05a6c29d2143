-- The first line of a text.
use Rattle.std.proofs.Common.{◌≡◌, ℕ, suc, ◌+◌, ◌<◌, ◌≤◌, Bool, true, false, cond, List, [], ◌∷◌, length, take, drop, min, refl, sym, ap, subst, ◌∙◌, arith, nat_eq, not, if◌then◌else◌}
use Rattle.std.specs.List.{prefix_len}
use Rattle.pb_ctree.specs.Bodies.{before_lines, is_rest}
use Rattle.pb_kernels.specs.Files.{lines, first_len}

-- a byte that ends no line
abbrev goes_on : ℕ → Bool
goes_on byte = not (nat_eq byte 10)

-- the number of bytes of the first line
abbrev line_len : List ℕ → ℕ
line_len [] = 0
line_len (c ∷ cs) = cond (nat_eq c 10) 1 (suc (line_len cs))

counted_at : (b : Bool) (n m k : ℕ) → min (n + 1) m ≡ k → min (cond (not b) (1 + n) 0 + 1) (suc m) ≡ cond b 1 (suc k)
counted_at true n m k h = omega arith
counted_at false n m k h = omega arith

counted_is : (bytes : List ℕ) → first_len bytes ≡ line_len bytes
counted_is [] = refl
counted_is (c ∷ cs) = counted_at (nat_eq c 10) (prefix_len goes_on cs) (length cs) (line_len cs) (counted_is cs)

first_at : (b : Bool) (c : ℕ) (cs : List ℕ) → (0 < length cs → lines cs ≡ take (line_len cs) cs ∷ lines (drop (line_len cs) cs))
    → (if b then (c ∷ []) ∷ lines cs else before_lines c (lines cs)) ≡ take (cond b 1 (suc (line_len cs))) (c ∷ cs) ∷ lines (drop (cond b 1 (suc (line_len cs))) (c ∷ cs))
unfolding lines
first_at true c cs h = refl
first_at false c [] h = refl
first_at false c (d ∷ ds) h = ap (before_lines c) (h (omega arith))

first : (bytes : List ℕ) → 0 < length bytes → lines bytes ≡ take (line_len bytes) bytes ∷ lines (drop (line_len bytes) bytes)
unfolding lines
first [] some = absurd (omega arith)
first (c ∷ cs) some = first_at (nat_eq c 10) c cs (first cs)

ends_at : (b : Bool) (c : ℕ) (cs : List ℕ) → nat_eq c 10 ≡ b → (line_len cs < length cs → is_rest false (take (line_len cs) cs) ≡ true)
    → cond b 1 (suc (line_len cs)) < suc (length cs) → is_rest false (take (cond b 1 (suc (line_len cs))) (c ∷ cs)) ≡ true
ends_at true c cs e h within = e
ends_at false c cs e h within = ap (λ b. is_rest b (take (line_len cs) cs)) e ∙ h (omega arith)

ends : (bytes : List ℕ) → line_len bytes < length bytes → is_rest false (take (line_len bytes) bytes) ≡ true
ends [] within = absurd (omega arith)
ends (c ∷ cs) within = ends_at (nat_eq c 10) c cs refl (ends cs) within

some_at : (b : Bool) (n : ℕ) → 0 < cond b 1 (suc n)
some_at true n = omega arith
some_at false n = omega arith

pub counted_first : (bytes : List ℕ) → 0 < length bytes → lines bytes ≡ take (first_len bytes) bytes ∷ lines (drop (first_len bytes) bytes)
counted_first bytes some =
    subst (λ (n : ℕ). lines bytes ≡ take n bytes ∷ lines (drop n bytes)) (sym (counted_is bytes)) (first bytes some)

pub counted_some : (bytes : List ℕ) → 0 < length bytes → 0 < first_len bytes
counted_some bytes some = omega arith

pub counted_within : (bytes : List ℕ) → first_len bytes ≤ length bytes
counted_within bytes = omega arith

pub counted_ends : (bytes : List ℕ) → first_len bytes < length bytes → is_rest false (take (first_len bytes) bytes) ≡ true
counted_ends bytes within =
    subst (λ (n : ℕ). n < length bytes → is_rest false (take n bytes) ≡ true) (sym (counted_is bytes)) (ends bytes) within
