-- Steps that add constraints to a system, one after the other.
use Rattle.std.proofs.Common.{◌≡◌, ◌↔◌, ℕ, ◌+◌, ℤ, pos, ◌+ℤ◌, ◌-ℤ◌, ◌≤ℤ◌, true, refl, sym, ap, ◌∙◌, subst, arith}
use Rattle.std.proofs.lemmas.Int.{ints}
use Rattle.pb_affine.specs.declared.lin.Base.{Base}
use Rattle.pb_affine.specs.declared.lin.Base.TheVariants.{Fixed, Param, Var}
use Rattle.pb_affine.specs.declared.lin.Lin.{Lin}
use Rattle.pb_affine.specs.Values.{value, base_value}
use Rattle.pb_diff.specs.declared.constraint.Constraint.{Constraint}
use Rattle.pb_diff.specs.Systems.{Differences, Keeps, has_pair, with_constraint}
use Rattle.pb_diff.proofs.Placed.{keeps_with, with_length, with_pair, with_others}
use Rattle.pb_diff_apart.specs.declared.term.Term.{Term}
use Rattle.pb_diff_apart.specs.Terms.{term_value, variable_of}
use Rattle.pb_diff_apart.specs.Adding.{Adds}

by_base : (b : Base) (off : ℤ) (own : ℕ) (s : ℕ → ℤ) → s 0 ≡ pos 0 → (s (variable_of b own) +ℤ off) ≡ (off +ℤ base_value b (s 1) (s own))
by_base Fixed off own s z = omega (arith, ints, z)
by_base Param off own s z = omega (arith, ints)
by_base Var off own s z = omega (arith, ints)

-- a term has the value of its lin
pub term_is : (l : Lin) (own : ℕ) (t : Term) (s : ℕ → ℤ) → t ≡ record { variable = variable_of l.base own; offset = l.off } → s 0 ≡ pos 0 → term_value t s ≡ value l (s 1) (s own)
term_is l own t s is z = ap (λ u. term_value u s) is ∙ by_base l.base l.off own s z

-- the same with 0 for the lin's variable
pub guard_term_is : (l : Lin) (t : Term) (s : ℕ → ℤ) → t ≡ record { variable = variable_of l.base 0; offset = l.off } → s 0 ≡ pos 0 → term_value t s ≡ value l (s 1) (pos 0)
guard_term_is l t s is z = term_is l 0 t s is z ∙ ap (λ i. value l (s 1) i) z

abbrev pub order_of : Term → Term → ℤ → Constraint
order_of x y c = record { a = x.variable; b = y.variable; c = c }

kept_there : (x y : Term) (c : ℤ) (s : ℕ → ℤ) → c ≡ y.offset -ℤ x.offset → Keeps s (order_of x y c) → term_value x s ≤ℤ term_value y s
kept_there x y c s is h = omega (arith, ints, is, h)

kept_back : (x y : Term) (c : ℤ) (s : ℕ → ℤ) → c ≡ y.offset -ℤ x.offset → term_value x s ≤ℤ term_value y s → Keeps s (order_of x y c)
kept_back x y c s is h = omega (arith, ints, is, h)

pub adds_one : (d e : Differences) (x y : Term) (c : ℤ) → c ≡ y.offset -ℤ x.offset → e ≡ record { vars = d.vars; list = with_constraint (order_of x y c) d.list } → Adds d e 1 (λ s. term_value x s ≤ℤ term_value y s)
adds_one d e x y c is e_is = subst (λ z. Adds d z 1 (λ s. term_value x s ≤ℤ term_value y s)) (sym e_is) (record {
  vars = refl;
  few = with_length (order_of x y c) d.list;
  pairs = λ v h. with_others 0 v (order_of x y c) d.list h;
  solutions = λ s. (
    λ sat. let both = (keeps_with s (order_of x y c) d.list).0 sat.all in (record { zero_first = sat.zero_first; all = both.1 }, kept_there x y c s is both.0),
    λ p. record { zero_first = p.0.zero_first; all = (keeps_with s (order_of x y c) d.list).1 (kept_back x y c s is p.1, p.0.all) },
  );
})

pub pair_one : (d e : Differences) (x y : Term) (c : ℤ) → e ≡ record { vars = d.vars; list = with_constraint (order_of x y c) d.list } → x.variable ≡ 0 → has_pair 0 y.variable e.list ≡ true
pair_one d e x y c e_is zero = subst (λ a. has_pair a y.variable e.list ≡ true) zero (subst (λ z. has_pair x.variable y.variable z.list ≡ true) (sym e_is) (with_pair (order_of x y c) d.list))

-- a fact in other words
pub adds_same : (d e : Differences) (count : ℕ) (F G : (ℕ → ℤ) → Type 0) → ((s : ℕ → ℤ) → s 0 ≡ pos 0 → F s ↔ G s) → Adds d e count F → Adds d e count G
adds_same d e count F G same a = record {
  vars = a.vars;
  few = a.few;
  pairs = a.pairs;
  solutions = λ s. (
    λ sat. let p = (a.solutions s).0 sat in (p.0, (same s p.0.zero_first).0 p.1),
    λ p. (a.solutions s).1 (p.0, (same s p.0.zero_first).1 p.1),
  );
}

-- a fact that always holds takes no constraint
pub adds_none : (d : Differences) (count : ℕ) (F : (ℕ → ℤ) → Type 0) → ((s : ℕ → ℤ) → F s) → Adds d d count F
adds_none d count F always = record { vars = refl; few = omega arith; pairs = λ v h. h; solutions = λ s. (λ sat. (sat, always s), λ p. p.0) }

-- one step after the other
pub adds_both : (d e f : Differences) (m n : ℕ) (F G : (ℕ → ℤ) → Type 0) → Adds d e m F → Adds e f n G → Adds d f (m + n) (λ s. F s × G s)
adds_both d e f m n F G a b = record {
  vars = b.vars ∙ a.vars;
  few = omega (arith, a.few, b.few);
  pairs = λ v h. b.pairs v (a.pairs v h);
  solutions = λ s. (
    λ sat. let q = (b.solutions s).0 sat in let p = (a.solutions s).0 q.0 in (p.0, (p.1, q.1)),
    λ p. (b.solutions s).1 ((a.solutions s).1 (p.0, p.1.0), p.1.1),
  );
}
