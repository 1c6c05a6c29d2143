-- In a stretch between neighbouring breakpoints all ends stand in one order, so its first N decides.
use Rattle.std.proofs.Common.{◌≡◌, ◌≢◌, ℕ, ℤ, pos, ◌+ℤ◌, ◌-ℤ◌, ◌≤ℤ◌, ◌<ℤ◌, inl, inr, Option, Some, None, List, [], ◌∷◌, true, Bool, ◌&&◌, ◌||◌, nat_eq, int_le, refl, sym, ap, ap₂, ◌∙◌, subst, arith}
use Rattle.std.proofs.lemmas.Int.{ints}
use Rattle.std.specs.List.{All, Contains}
use Rattle.std.proofs.lemmas.List.Elements.{All-head, All-tail, All-contains}
use Rattle.pb_affine.specs.declared.lin.Base.{Base}
use Rattle.pb_affine.specs.declared.lin.Base.TheVariants.{Fixed, Param, Var}
use Rattle.pb_affine.specs.declared.lin.Lin.{Lin}
use Rattle.pb_affine.specs.declared.guard.Guard.{Guard}
use Rattle.pb_affine.specs.Values.{value, base_value, holds, hold, is_at_least, is_at_most, is_from_on, is_up_to}
use Rattle.pb_cases.specs.Breakpoints.{Division, IsBreakpoint, IsCut, IsDivision, IsInRange}
use Rattle.pb_cases.specs.Bounds.{IsAligned, IsEdge, IsEdgeIf, after, low_end, or_zero}

-- no breakpoint is above b and at most n
pub record IsStretch (d : Division) (b n : ℤ) : Type 0 where
  pub first : IsInRange d.range b
  pub last : IsInRange d.range n
  pub le : b ≤ℤ n
  pub none : (m : ℤ) → b <ℤ m → m ≤ℤ n → IsBreakpoint d.range d.cuts m → ⊥

abbrev pub at : Lin → ℤ → ℤ
at l n = value l n (pos 0)

pub up_to_below : (o : Option ℕ) (m n : ℤ) → m ≤ℤ n → is_up_to n o ≡ true → is_up_to m o ≡ true
up_to_below None m n le h = refl
up_to_below (Some a) m n le h = grind (arith, ints)

inside : (d : Division) (b n m : ℤ) → IsStretch d b n → b <ℤ m → m ≤ℤ n → IsInRange d.range m
inside d b n m s lt le = record { low = omega (arith, ints, s.first.low); high = up_to_below d.range.high m n le s.last.high }

fixed_param : (x y b n : ℤ) → b ≤ℤ n → (b <ℤ (x -ℤ y) → (x -ℤ y) ≤ℤ n → ⊥) → int_le (x +ℤ pos 0) (y +ℤ b) ≡ int_le (x +ℤ pos 0) (y +ℤ n)
fixed_param x y b n le none = grind (arith, ints)

param_fixed : (x y b n : ℤ) → b ≤ℤ n → (b <ℤ ((y -ℤ x) +ℤ pos 1) → ((y -ℤ x) +ℤ pos 1) ≤ℤ n → ⊥) → int_le (x +ℤ b) (y +ℤ pos 0) ≡ int_le (x +ℤ n) (y +ℤ pos 0)
param_fixed x y b n le none = grind (arith, ints)

param_param : (x y b n : ℤ) → int_le (x +ℤ b) (y +ℤ b) ≡ int_le (x +ℤ n) (y +ℤ n)
param_param x y b n = grind (arith, ints)

-- the order of two cuts stays
order : (d : Division) (b n : ℤ) (e f : Lin) → IsStretch d b n → Contains d.cuts e → Contains d.cuts f → e.base ≢ Var → f.base ≢ Var → int_le (at e b) (at f b) ≡ int_le (at e n) (at f n)
order d b n e f s e_in f_in e_no f_no = by_base e.base f.base refl refl where
  by_base : (p q : Base) → e.base ≡ p → f.base ≡ q → int_le (e.off +ℤ base_value e.base b (pos 0)) (f.off +ℤ base_value f.base b (pos 0)) ≡ int_le (e.off +ℤ base_value e.base n (pos 0)) (f.off +ℤ base_value f.base n (pos 0))
  by_base Var q ep eq = absurd (e_no ep)
  by_base p Var ep eq = absurd (f_no eq)
  by_base Fixed Fixed ep eq = rw (ep, eq) refl
  by_base Param Param ep eq = rw (ep, eq) (param_param e.off f.off b n)
  by_base Fixed Param ep eq = rw (ep, eq) (fixed_param e.off f.off b n s.le (λ lt le. s.none (e.off -ℤ f.off) lt le (record { in_range = inside d b n (e.off -ℤ f.off) s lt le; why = inr (record { d = e; c = f; d_in = e_in; c_in = f_in; d_fixed = ep; c_moves = eq; here = inl refl }) })))
  by_base Param Fixed ep eq = rw (ep, eq) (param_fixed e.off f.off b n s.le (λ lt le. s.none ((f.off -ℤ e.off) +ℤ pos 1) lt le (record { in_range = inside d b n ((f.off -ℤ e.off) +ℤ pos 1) s lt le; why = inr (record { d = f; c = e; d_in = f_in; c_in = e_in; d_fixed = eq; c_moves = ep; here = inr refl }) })))

is_cut : (d : Division) (e : Lin) → IsDivision d → Contains d.cuts e → e.base ≢ Var
is_cut d e divided e_in = (All-contains IsCut d.cuts e divided.cuts e_in).no_var

flipped : (p q r s : ℤ) → int_le (q +ℤ pos 1) p ≡ int_le (s +ℤ pos 1) r → int_le p q ≡ int_le r s
flipped p q r s e = grind (arith, ints)

pub next_value : (l : Lin) (n : ℤ) → at (after l) n ≡ at l n +ℤ pos 1
next_value l n = omega (arith, ints)

-- a number that a guard names lies in no stretch
edge_same : (d : Division) (b n m : ℤ) → IsStretch d b n → IsEdge d m → b <ℤ m → m ≤ℤ n → ⊥
edge_same d b n m s (inl break) lt le = s.none m lt le break
edge_same d b n m s (inr (inl below)) lt le = let low : pos d.range.low ≤ℤ b = s.first.low in absurd (omega (arith, ints))
edge_same d b n m s (inr (inr above)) lt le = let high : is_up_to m d.range.high ≡ true = (inside d b n m s lt le).high in absurd (cc)

from_of : (a b n : ℤ) → b ≤ℤ n → (b <ℤ a → a ≤ℤ n → ⊥) → int_le a b ≡ int_le a n
from_of a b n le none = grind (arith, ints)

to_of : (a b n : ℤ) → b ≤ℤ n → (b <ℤ (a +ℤ pos 1) → (a +ℤ pos 1) ≤ℤ n → ⊥) → int_le b a ≡ int_le n a
to_of a b n le none = grind (arith, ints)

same_from : (d : Division) (b n : ℤ) (o : Option ℕ) → IsStretch d b n → IsEdgeIf d (pos 0) o → is_from_on b o ≡ is_from_on n o
same_from d b n None s edge = refl
same_from d b n (Some m) s edge =
    let z : pos m +ℤ pos 0 ≡ pos m = omega (arith, ints) in
    from_of (pos m) b n s.le (edge_same d b n (pos m) s (subst (λ x. IsEdge d x) z edge))

same_to : (d : Division) (b n : ℤ) (o : Option ℕ) → IsStretch d b n → IsEdgeIf d (pos 1) o → is_up_to b o ≡ is_up_to n o
same_to d b n None s edge = refl
same_to d b n (Some m) s edge = to_of (pos m) b n s.le (edge_same d b n (pos m +ℤ pos 1) s edge)

same_low : (d : Division) (b n : ℤ) (o : Option Lin) (l e : Lin) → IsDivision d → IsStretch d b n → o ≡ Some l → Contains d.cuts l → Contains d.cuts e → is_at_least (at e b) o b (pos 0) ≡ is_at_least (at e n) o n (pos 0)
same_low d b n o l e divided s is l_in e_in = rw is (order d b n l e s l_in e_in (is_cut d l divided l_in) (is_cut d e divided e_in))

same_high : (d : Division) (b n : ℤ) (o : Option Lin) (l e : Lin) → IsDivision d → IsStretch d b n → o ≡ Some l → Contains d.cuts (after l) → Contains d.cuts e → is_at_most (at e b) o b (pos 0) ≡ is_at_most (at e n) o n (pos 0)
same_high d b n o l e divided s is l_in e_in =
    let o_is : int_le (at (after l) b) (at e b) ≡ int_le (at (after l) n) (at e n) = order d b n (after l) e s l_in e_in (is_cut d (after l) divided l_in) (is_cut d e divided e_in) in
    let next : int_le (at l b +ℤ pos 1) (at e b) ≡ int_le (at l n +ℤ pos 1) (at e n) = ap (λ z. int_le z (at e b)) (sym (next_value l b)) ∙ o_is ∙ ap (λ z. int_le z (at e n)) (next_value l n) in
    rw is (flipped (at e b) (at l b) (at e n) (at l n) next)

pub five : (r p q u v p' q' u' v' : Bool) → p ≡ p' → q ≡ q' → u ≡ u' → v ≡ v' → (r && p && q && u && v) ≡ (r && p' && q' && u' && v')
five r p q u v p' q' u' v' a b c d = cc

-- a guard holds at an end of the first N exactly where it does at that end at each N
pub same_guard : (d : Division) (b n : ℤ) (g : Guard) (role : ℕ) (e : Lin) → IsDivision d → IsStretch d b n → IsAligned d g → Contains d.cuts e → holds g b (pos 0) role (at e b) ≡ holds g n (pos 0) role (at e n)
same_guard d b n g role e divided s aligned e_in =
    five (nat_eq role g.role) (is_at_least (at e b) g.low b (pos 0)) (is_at_most (at e b) g.high b (pos 0)) (is_from_on b g.from) (is_up_to b g.to) (is_at_least (at e n) g.low n (pos 0)) (is_at_most (at e n) g.high n (pos 0)) (is_from_on n g.from) (is_up_to n g.to)
    (same_low d b n g.low (low_end g) e divided s aligned.bounded.low_is aligned.low_in e_in)
    (same_high d b n g.high (or_zero g.high) e divided s aligned.bounded.high_is aligned.high_in e_in)
    (same_from d b n g.from s aligned.from_edge)
    (same_to d b n g.to s aligned.to_edge)

pub same_guards : (d : Division) (b n : ℤ) (gs : List Guard) (role : ℕ) (e : Lin) → IsDivision d → IsStretch d b n → All (IsAligned d) gs → Contains d.cuts e → hold gs b (pos 0) role (at e b) ≡ hold gs n (pos 0) role (at e n)
same_guards d b n [] role e divided s aligned e_in = refl
same_guards d b n (g ∷ gs) role e divided s aligned e_in =
    ap₂ (λ x y. x || y) (same_guard d b n g role e divided s (All-head (IsAligned d) g gs aligned) e_in) (same_guards d b n gs role e divided s (All-tail (IsAligned d) g gs aligned) e_in)
