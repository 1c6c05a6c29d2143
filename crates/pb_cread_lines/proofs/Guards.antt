-- Guards and conditions that are spelled are read again.
use Rattle.std.proofs.Common.{◌≡◌, ℕ, zero, suc, ◌≤◌, Bool, true, false, List, [], ◌∷◌, ◌++◌, length, Option, Some, None, refl, sym, ap, ◌∙◌, append_assoc, append-nil, arith, rules}
use Rattle.std.specs.Prelude.{ℤ, codes, decimal, ◌&&◌, if◌then◌else◌, All}
use Rattle.std.specs.Ordering.{int_eq}
use Rattle.std.proofs.lemmas.List.{length-append}
use Rattle.std.proofs.lemmas.List.Elements.{All-head, All-tail}
use Rattle.pb_affine.specs.declared.lin.Base.{Base}
use Rattle.pb_affine.specs.declared.lin.Base.TheVariants.{Fixed, Param, Var}
use Rattle.pb_affine.specs.declared.lin.Lin.{Lin}
use Rattle.pb_affine.specs.declared.guard.Guard.{Guard}
use Rattle.pb_local.specs.Layout.{is_same_base, is_same_lin}
use Rattle.pb_local.specs.Pieces.{joined}
use Rattle.pb_ctree.specs.Small.{lin_text, index_text, from_text, to_text, guard_text, others_text, cond_text}
use Rattle.pb_cread_lines.specs.Fits.{FitsNumberIf, FitsLinIf, FitsGuard}
use Rattle.pb_cread_lines.specs.Parts.{strip, lin_of, lin_behind, number_behind, bounds_at, index_at, guard_at}
use Rattle.pb_cread_lines.specs.Guess.{closed_at, others_at, several_at, cond_at}
use Rattle.pb_text_read.proofs.Digits.{begins_digit}
use Rattle.pb_cread_lines.proofs.Numbers.{Ends, number_again, lin_again}

-- pieces before a text
abbrev pub onto : List (List ℕ) → List ℕ → List ℕ
onto [] x = x
onto (p ∷ ps) x = p ++ onto ps x

pub joined_onto : (ps : List (List ℕ)) (x : List ℕ) → joined ps ++ x ≡ onto ps x
joined_onto [] x = refl
joined_onto (p ∷ ps) x = append_assoc p (joined ps) x ∙ ap (λ w. p ++ w) (joined_onto ps x)

-- ---- the bounds of N

to_again : (t : Option ℕ) (r : List ℕ) → FitsNumberIf t → number_behind (codes " && N <= ") (to_text t ++ 41 ∷ r) ≡ Some (t, 41 ∷ r)
unfolding number_behind strip
to_again None r fits = refl
to_again (Some n) r fits = rw (number_again n (41 ∷ r) fits refl) refl

to_number : (t : Option ℕ) (r : List ℕ) → begins_digit (to_text t ++ 41 ∷ r) ≡ false
to_number None r = refl
to_number (Some n) r = refl

from_again : (f t : Option ℕ) (r : List ℕ) → FitsNumberIf f → number_behind (codes " && N >= ") (from_text f ++ (to_text t ++ 41 ∷ r)) ≡ Some (f, to_text t ++ 41 ∷ r)
unfolding number_behind strip
from_again None None r fits = refl
from_again None (Some m) r fits = refl
from_again (Some n) t r fits = rw (number_again n (to_text t ++ 41 ∷ r) fits (to_number t r)) refl

-- ---- the index

abbrev tail : Option ℕ → Option ℕ → List ℕ → List ℕ
tail f t r = from_text f ++ (to_text t ++ 41 ∷ r)

record IsTail (x : List ℕ) : Type 0 where
  ends : Ends x
  same : strip (codes " && I == ") x ≡ None
  low : strip (codes " && I >= ") x ≡ None
  high : strip (codes " && I <= ") x ≡ None

is_tail : (f t : Option ℕ) (r : List ℕ) → IsTail (tail f t r)
unfolding strip
is_tail None None r = record { ends = record { number = refl; plus = refl; minus = refl }; same = refl; low = refl; high = refl }
is_tail None (Some m) r = record { ends = record { number = refl; plus = refl; minus = refl }; same = refl; low = refl; high = refl }
is_tail (Some n) t r = record { ends = record { number = refl; plus = refl; minus = refl }; same = refl; low = refl; high = refl }

lin_same : (a b : Lin) → is_same_lin a b ≡ true → a ≡ b
lin_same a b e = by_base a.base b.base a.off b.off e where
  by_off : (base : Base) (x y : ℤ) → int_eq x y ≡ true → lin_of base x ≡ lin_of base y
  by_off base x y e = ap (lin_of base) (search (rules, e))

  by_base : (p q : Base) (x y : ℤ) → (is_same_base p q && int_eq x y) ≡ true → lin_of p x ≡ lin_of q y
  by_base Fixed Fixed x y e = by_off Fixed x y e
  by_base Param Param x y e = by_off Param x y e
  by_base Var Var x y e = by_off Var x y e
  by_base Fixed Param x y e = absurd cc
  by_base Fixed Var x y e = absurd cc
  by_base Param Fixed x y e = absurd cc
  by_base Param Var x y e = absurd cc
  by_base Var Fixed x y e = absurd cc
  by_base Var Param x y e = absurd cc

pub same_lin : (l : Lin) → is_same_lin l l ≡ true
same_lin l = by_base l.base l.off where
  by_off : (x : ℤ) → int_eq x x ≡ true
  by_off x = search rules

  by_base : (b : Base) (x : ℤ) → (is_same_base b b && int_eq x x) ≡ true
  by_base Fixed x = by_off x
  by_base Param x = by_off x
  by_base Var x = by_off x

abbrev ranged : Lin → Lin → List ℕ
ranged a b = joined (codes " && I >= " ∷ lin_text a ∷ codes " && I <= " ∷ lin_text b ∷ [])

index_again : (low high : Option Lin) (x : List ℕ) → IsTail x → FitsLinIf low → FitsLinIf high → index_at (index_text low high ++ x) ≡ Some ((low, high), x)
unfolding index_at bounds_at lin_behind strip
index_again None None x e p q = rw (e.same, e.low, e.high) refl
index_again (Some a) None x e p q = rw (lin_again a x p e.ends, e.high) refl
index_again None (Some b) x e p q = rw (lin_again b x q e.ends) refl
index_again (Some a) (Some b) x e p q = by_test (is_same_lin a b) (lin_same a b) where
  by_test : (s : Bool) → (s ≡ true → a ≡ b) → index_at ((if s then codes " && I == " ++ lin_text a else ranged a b) ++ x) ≡ Some ((Some a, Some b), x)
  by_test true same = rw (lin_again a x p e.ends) (ap (λ y. Some ((Some a, Some y), x)) (same refl))
  by_test false same =
      let rest = codes " && I <= " ++ (lin_text b ++ x) in
      let ends : Ends rest = record { number = refl; plus = refl; minus = refl } in
      ap index_at (joined_onto (codes " && I >= " ∷ lin_text a ∷ codes " && I <= " ∷ lin_text b ∷ []) x) ∙ rw (lin_again a rest p ends, lin_again b x q e.ends) refl

index_number : (low high : Option Lin) (x : List ℕ) → IsTail x → begins_digit (index_text low high ++ x) ≡ false
index_number None None x e = e.ends.number
index_number (Some a) None x e = refl
index_number None (Some b) x e = refl
index_number (Some a) (Some b) x e = by_test (is_same_lin a b) where
  by_test : (s : Bool) → begins_digit ((if s then codes " && I == " ++ lin_text a else ranged a b) ++ x) ≡ false
  by_test true = refl
  by_test false = refl

-- ---- guards

guard_again : (g : Guard) (r : List ℕ) → FitsGuard g → guard_at (guard_text g ++ 41 ∷ r) ≡ Some (g, 41 ∷ r)
unfolding guard_at strip
guard_again g r fits =
    let x = tail g.from g.to r in
    let e = is_tail g.from g.to r in
    ap guard_at (joined_onto (codes "R == " ∷ decimal g.role ∷ index_text g.low g.high ∷ from_text g.from ∷ to_text g.to ∷ []) (41 ∷ r))
    ∙ rw (number_again g.role (index_text g.low g.high ++ x) fits.role (index_number g.low g.high x e), index_again g.low g.high x e fits.low fits.high, from_again g.from g.to r fits.from, to_again g.to r fits.to) refl

pub closed_again : (g : Guard) (r : List ℕ) → FitsGuard g → closed_at (guard_text g ++ 41 ∷ r) ≡ Some (g, r)
unfolding closed_at strip
closed_again g r fits = rw (guard_again g r fits) refl

-- ---- conditions

others_none : (n : ℕ) (sofar : List Guard) (x : List ℕ) → strip (codes " || (") x ≡ None → others_at n sofar x ≡ Some (sofar, x)
others_none zero sofar x ends = refl
others_none (suc n) sofar x ends = rw ends refl

others_step : (n : ℕ) (g : Guard) (sofar : List Guard) (r : List ℕ) → FitsGuard g → others_at (suc n) sofar (codes " || (" ++ (guard_text g ++ (41 ∷ r))) ≡ others_at n (sofar ++ g ∷ []) r
unfolding strip
others_step n g sofar r fits = rw (closed_again g r fits) refl

others_again : (gs sofar : List Guard) (n : ℕ) (x : List ℕ) → length gs ≤ n → All FitsGuard gs → strip (codes " || (") x ≡ None → others_at n sofar (others_text gs ++ x) ≡ Some (sofar ++ gs, x)
others_again [] sofar n x le fits ends = others_none n sofar x ends ∙ ap (λ (l : List Guard). Some (l, x)) (sym (append-nil sofar))
others_again (g ∷ gs) sofar zero x le fits ends = absurd (omega (arith, le))
others_again (g ∷ gs) sofar (suc n) x le fits ends =
    ap (others_at (suc n) sofar) (joined_onto (codes " || (" ∷ guard_text g ∷ codes ")" ∷ others_text gs ∷ []) x)
    ∙ others_step n g sofar (others_text gs ++ x) (All-head FitsGuard g gs fits)
    ∙ others_again gs (sofar ++ g ∷ []) n x (omega (arith, le)) (All-tail FitsGuard g gs fits) ends
    ∙ ap (λ (l : List Guard). Some (l, x)) (append_assoc sofar (g ∷ []) gs)

longer : (g : Guard) (gs : List Guard) (x : List ℕ) → length gs ≤ length (others_text gs ++ x) → suc (length gs) ≤ length (others_text (g ∷ gs) ++ x)
longer g gs x long = omega (arith, long, ap length (joined_onto (codes " || (" ∷ guard_text g ∷ codes ")" ∷ others_text gs ∷ []) x), length-append (guard_text g) (41 ∷ (others_text gs ++ x)))

others_long : (gs : List Guard) (x : List ℕ) → length gs ≤ length (others_text gs ++ x)
others_long [] x = omega arith
others_long (g ∷ gs) x = longer g gs x (others_long gs x)

no_or : (r : List ℕ) → strip (codes " || (") (41 ∷ r) ≡ None
unfolding strip
no_or r = refl

-- a condition, up to the parenthesis behind it
pub cond_again : (gs : List Guard) (r : List ℕ) → All FitsGuard gs → cond_at (cond_text gs ++ 41 ∷ r) ≡ Some (gs, r)
unfolding cond_at several_at strip
cond_again [] r fits = refl
cond_again (g ∷ []) r fits = rw (closed_again g r (All-head FitsGuard g [] fits)) refl
cond_again (g ∷ h ∷ gs) r fits =
    let rest = others_text (h ∷ gs) ++ (41 ∷ r) in
    ap cond_at (joined_onto (codes "(" ∷ guard_text g ∷ codes ")" ∷ others_text (h ∷ gs) ∷ []) (41 ∷ r))
    ∙ rw (closed_again g rest (All-head FitsGuard g (h ∷ gs) fits), others_again (h ∷ gs) (g ∷ []) (length rest) (41 ∷ r) (others_long (h ∷ gs) (41 ∷ r)) (All-tail FitsGuard g (h ∷ gs) fits) (no_or r)) refl
