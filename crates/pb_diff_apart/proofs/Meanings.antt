-- What constraints on terms say of N, of the index, and of lins.
use Rattle.std.proofs.Common.{◌≡◌, ◌↔◌, ℕ, ℤ, pos, ◌+ℤ◌, ◌≤ℤ◌, Some, true, false, Bool, ◌&&◌, nat_eq, int_le, refl, sym, ap, ◌∙◌, subst, arith}
use Rattle.std.proofs.lemmas.Int.{ints}
use Rattle.std.proofs.lemmas.Bool.Decides.{nat_tests}
use Rattle.pb_affine.specs.declared.lin.Lin.{Lin}
use Rattle.pb_affine.specs.declared.guard.Guard.{Guard}
use Rattle.pb_affine.specs.declared.range.NRange.{NRange}
use Rattle.pb_affine.specs.Values.{value, holds, is_at_least, is_at_most, is_from_on, is_up_to}
use Rattle.pb_cases.specs.Breakpoints.{IsInRange}
use Rattle.pb_diff_apart.specs.declared.term.Term.{Term}
use Rattle.pb_diff_apart.specs.Terms.{term_value, variable_of}
use Rattle.pb_diff_apart.proofs.Steps.{term_is, guard_term_is}

le_there : (a v x y : ℤ) → a ≡ v → y ≡ x → a ≤ℤ y → int_le v x ≡ true
le_there a v x y e f h = grind (arith, ints)

le_back : (a v x y : ℤ) → a ≡ v → y ≡ x → int_le v x ≡ true → a ≤ℤ y
le_back a v x y e f h = grind (arith, ints)

le_test : (a v x y : ℤ) → a ≡ v → y ≡ x → (a ≤ℤ y) ↔ (int_le v x ≡ true)
le_test a v x y e f = (le_there a v x y e f, le_back a v x y e f)

zero_more : (x : ℤ) → x +ℤ pos 0 ≡ x
zero_more x = omega (arith, ints)

pub low_same : (l : Lin) (t : Term) → t ≡ record { variable = variable_of l.base 0; offset = l.off } → (s : ℕ → ℤ) → s 0 ≡ pos 0 → (term_value t s ≤ℤ (s 2 +ℤ pos 0)) ↔ (is_at_least (s 2) (Some l) (s 1) (pos 0) ≡ true)
low_same l t is s z = le_test (term_value t s) (value l (s 1) (pos 0)) (s 2) (s 2 +ℤ pos 0) (guard_term_is l t s is z) (zero_more (s 2))

pub high_same : (l : Lin) (t : Term) → t ≡ record { variable = variable_of l.base 0; offset = l.off } → (s : ℕ → ℤ) → s 0 ≡ pos 0 → ((s 2 +ℤ pos 0) ≤ℤ term_value t s) ↔ (is_at_most (s 2) (Some l) (s 1) (pos 0) ≡ true)
high_same l t is s z = le_test (s 2 +ℤ pos 0) (s 2) (value l (s 1) (pos 0)) (term_value t s) (zero_more (s 2)) (guard_term_is l t s is z)

number_is : (m : ℕ) (t : Term) (s : ℕ → ℤ) → t ≡ record { variable = 0; offset = pos m } → s 0 ≡ pos 0 → term_value t s ≡ pos m
number_is m t s is z = ap (λ u. term_value u s) is ∙ plain (s 0) (pos m) z where
  plain : (a b : ℤ) → a ≡ pos 0 → a +ℤ b ≡ b
  plain a b e = omega (arith, ints, e)

pub from_same : (m : ℕ) (t : Term) → t ≡ record { variable = 0; offset = pos m } → (s : ℕ → ℤ) → s 0 ≡ pos 0 → (term_value t s ≤ℤ (s 1 +ℤ pos 0)) ↔ (is_from_on (s 1) (Some m) ≡ true)
from_same m t is s z = le_test (term_value t s) (pos m) (s 1) (s 1 +ℤ pos 0) (number_is m t s is z) (zero_more (s 1))

pub to_same : (m : ℕ) (t : Term) → t ≡ record { variable = 0; offset = pos m } → (s : ℕ → ℤ) → s 0 ≡ pos 0 → ((s 1 +ℤ pos 0) ≤ℤ term_value t s) ↔ (is_up_to (s 1) (Some m) ≡ true)
to_same m t is s z = le_test (s 1 +ℤ pos 0) (s 1) (pos m) (term_value t s) (zero_more (s 1)) (number_is m t s is z)

pub range_same : (range : NRange) (t : Term) → t ≡ record { variable = 0; offset = pos range.low } → (s : ℕ → ℤ) → s 0 ≡ pos 0 → ((term_value t s ≤ℤ (s 1 +ℤ pos 0)) × (is_up_to (s 1) range.high ≡ true)) ↔ IsInRange range (s 1)
range_same range t is s z = (
  λ p. record { low = subst (λ a. a ≤ℤ s 1) e (subst (λ b. term_value t s ≤ℤ b) (zero_more (s 1)) p.0); high = p.1 },
  λ r. (subst (λ a. a ≤ℤ (s 1 +ℤ pos 0)) (sym e) (subst (λ b. pos range.low ≤ℤ b) (sym (zero_more (s 1))) r.low), r.high),
) where
  e : term_value t s ≡ pos range.low
  e = number_is range.low t s is z

nat_same : (r : ℕ) → nat_eq r r ≡ true
nat_same r = grind (arith, nat_tests)

four_there : (r p q u v : Bool) → r ≡ true → p ≡ true → q ≡ true → u ≡ true → v ≡ true → (r && p && q && u && v) ≡ true
four_there r p q u v a b c d e = rw (a, b, c, d, e) refl

four_back : (r p q u v : Bool) → (r && p && q && u && v) ≡ true → (((p ≡ true) × (q ≡ true)) × (u ≡ true)) × (v ≡ true)
four_back true true true true v h = (((refl, refl), refl), h)
four_back true true true false v h = absurd (cc)
four_back true true false u v h = absurd (cc)
four_back true false q u v h = absurd (cc)
four_back false p q u v h = absurd (cc)

pub guard_same : (g : Guard) (s : ℕ → ℤ) → s 0 ≡ pos 0 → ((((is_at_least (s 2) g.low (s 1) (pos 0) ≡ true) × (is_at_most (s 2) g.high (s 1) (pos 0) ≡ true)) × (is_from_on (s 1) g.from ≡ true)) × (is_up_to (s 1) g.to ≡ true)) ↔ (holds g (s 1) (pos 0) g.role (s 2) ≡ true)
guard_same g s z = (
  λ p. four_there (nat_eq g.role g.role) (is_at_least (s 2) g.low (s 1) (pos 0)) (is_at_most (s 2) g.high (s 1) (pos 0)) (is_from_on (s 1) g.from) (is_up_to (s 1) g.to) (nat_same g.role) p.0.0.0 p.0.0.1 p.0.1 p.1,
  λ h. four_back (nat_eq g.role g.role) (is_at_least (s 2) g.low (s 1) (pos 0)) (is_at_most (s 2) g.high (s 1) (pos 0)) (is_from_on (s 1) g.from) (is_up_to (s 1) g.to) h,
)

pub least_same : (v m : ℤ) → v ≡ m → (s : ℕ → ℤ) → s 0 ≡ pos 0 → ((s 0 +ℤ v) ≤ℤ (s 2 +ℤ pos 0)) ↔ (m ≤ℤ s 2)
least_same v m is s z = (λ h. omega (arith, ints, is, z, h), λ h. omega (arith, ints, is, z, h))

pub below_same : (p q : Lin) (t u : Term) → t ≡ record { variable = variable_of p.base 2; offset = p.off } → u ≡ record { variable = variable_of q.base 2; offset = q.off } → (s : ℕ → ℤ) → s 0 ≡ pos 0 → ((s t.variable +ℤ (t.offset +ℤ pos 1)) ≤ℤ term_value u s) ↔ ((value p (s 1) (s 2) +ℤ pos 1) ≤ℤ value q (s 1) (s 2))
below_same p q t u t_is u_is s z = le_same (s t.variable) t.offset (value p (s 1) (s 2)) (term_value u s) (value q (s 1) (s 2)) (term_is p 2 t s t_is z) (term_is q 2 u s u_is z) where
  le_same : (a b v w x : ℤ) → a +ℤ b ≡ v → w ≡ x → ((a +ℤ (b +ℤ pos 1)) ≤ℤ w) ↔ ((v +ℤ pos 1) ≤ℤ x)
  le_same a b v w x e f = (λ h. omega (arith, ints, e, f, h), λ h. omega (arith, ints, e, f, h))

pub low_of : (g : Guard) (n x : ℤ) → holds g n (pos 0) g.role x ≡ true → is_at_least x g.low n (pos 0) ≡ true
low_of g n x h = (four_back (nat_eq g.role g.role) (is_at_least x g.low n (pos 0)) (is_at_most x g.high n (pos 0)) (is_from_on n g.from) (is_up_to n g.to) h).0.0.0
