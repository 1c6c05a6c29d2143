-- Meets N at which cuts meet.
use Rattle.std.proofs.Common.{◌≡◌, ◌≢◌, ℕ, ℤ, pos, ◌+ℤ◌, ◌-ℤ◌, ◌≤ℤ◌, ◌<ℤ◌, Bool, true, false, ◌&&◌, int_le, int_lt, refl, arith, ap, sym, ◌⊎◌, inl, inr, List}
use Rattle.std.proofs.lemmas.Int.{ints}
use Rattle.std.proofs.lemmas.Bool.Decides.{nat_tests}
use Rattle.pb_affine.specs.declared.lin.Base.{Base}
use Rattle.pb_affine.specs.declared.lin.Base.TheVariants.{Fixed, Param, Var}
use Rattle.pb_affine.specs.declared.lin.Lin.{Lin}
use Rattle.pb_affine.specs.declared.range.NRange.{NRange}
use Rattle.pb_affine.specs.Values.{base_value, is_up_to}
use Rattle.pb_cases.specs.Breakpoints.{IsInRange, IsMeeting}
use Rattle.pb_part_areas.specs.Areas.{at, is_param}
use Rattle.pb_part_areas.specs.Fits.{IsCutOf, IsEdgeOf}

pub not_true : {A : Type 0} → false ≡ true → A
not_true e = absurd cc

base_still : (b : Base) (n : ℤ) → is_param b ≡ false → base_value b n (pos 0) ≡ pos 0
base_still Fixed n e = refl
base_still Param n e = not_true (sym e)
base_still Var n e = refl

base_grows : (b : Base) (n : ℤ) → is_param b ≡ true → base_value b n (pos 0) ≡ n
base_grows Fixed n e = not_true e
base_grows Param n e = refl
base_grows Var n e = not_true e

plus_zero : (a b : ℤ) → b ≡ pos 0 → a +ℤ b ≡ a
plus_zero a b e = omega (arith, ints)

pub at_still : (l : Lin) (n : ℤ) → is_param l.base ≡ false → at l n ≡ l.off
at_still l n e = plus_zero l.off (base_value l.base n (pos 0)) (base_still l.base n e)

pub at_grows : (l : Lin) (n : ℤ) → is_param l.base ≡ true → at l n ≡ l.off +ℤ n
at_grows l n e = ap (λ z. l.off +ℤ z) (base_grows l.base n e)

same_base : (b c : Base) (n : ℤ) → is_param b ≡ is_param c → base_value b n (pos 0) ≡ base_value c n (pos 0)
same_base Fixed Fixed n e = refl
same_base Fixed Param n e = not_true e
same_base Fixed Var n e = refl
same_base Param Fixed n e = not_true (sym e)
same_base Param Param n e = refl
same_base Param Var n e = not_true (sym e)
same_base Var Fixed n e = refl
same_base Var Param n e = not_true e
same_base Var Var n e = refl

-- two lins that grow alike keep their distance
pub apart : (a b : Lin) (n : ℤ) → is_param a.base ≡ is_param b.base → at a n -ℤ a.off ≡ at b n -ℤ b.off
apart a b n e = let k : base_value a.base n (pos 0) ≡ base_value b.base n (pos 0) = same_base a.base b.base n e in omega (arith, ints)

lower_ints : (x a b p q r : ℤ) → p -ℤ a ≡ q -ℤ b → ((a <ℤ b) × (r ≡ p)) ⊎ ((b ≤ℤ a) × (r ≡ q)) → int_lt x r ≡ int_lt x p && int_lt x q
lower_ints x a b p q r e h = grind (arith, ints, nat_tests)

higher_ints : (x a b p q r : ℤ) → p -ℤ a ≡ q -ℤ b → ((a <ℤ b) × (r ≡ q)) ⊎ ((b ≤ℤ a) × (r ≡ p)) → int_le r x ≡ int_le p x && int_le q x
higher_ints x a b p q r e h = grind (arith, ints, nat_tests)

pub lower_first : (a b : Lin) → is_param a.base ≡ is_param b.base → a.off <ℤ b.off → (n x : ℤ) → int_lt x (at a n) ≡ int_lt x (at a n) && int_lt x (at b n)
lower_first a b e h n x = lower_ints x a.off b.off (at a n) (at b n) (at a n) (apart a b n e) (inl (h, refl))

pub lower_second : (a b : Lin) → is_param a.base ≡ is_param b.base → b.off ≤ℤ a.off → (n x : ℤ) → int_lt x (at b n) ≡ int_lt x (at a n) && int_lt x (at b n)
lower_second a b e h n x = lower_ints x a.off b.off (at a n) (at b n) (at b n) (apart a b n e) (inr (h, refl))

pub higher_second : (a b : Lin) → is_param a.base ≡ is_param b.base → a.off <ℤ b.off → (n x : ℤ) → int_le (at b n) x ≡ int_le (at a n) x && int_le (at b n) x
higher_second a b e h n x = higher_ints x a.off b.off (at a n) (at b n) (at b n) (apart a b n e) (inl (h, refl))

pub higher_first : (a b : Lin) → is_param a.base ≡ is_param b.base → b.off ≤ℤ a.off → (n x : ℤ) → int_le (at a n) x ≡ int_le (at a n) x && int_le (at b n) x
higher_first a b e h n x = higher_ints x a.off b.off (at a n) (at b n) (at a n) (apart a b n e) (inr (h, refl))

-- ---- where they meet

low_ints : (f p x y n : ℤ) → x ≡ f → y ≡ p +ℤ n → f ≤ℤ p → int_le (pos 0) n ≡ int_le (pos 0) n && int_le x y
low_ints f p x y n ex ey h = grind (arith, ints, nat_tests)

high_ints : (f p x y n : ℤ) (t : ℕ) → x ≡ f → y ≡ p +ℤ n → pos t ≡ f -ℤ p → int_le (pos t) n ≡ int_le (pos 0) n && int_le x y
high_ints f p x y n t ex ey h = grind (arith, ints, nat_tests)

pub meet_at_once : (fixed param : Lin) → is_param fixed.base ≡ false → is_param param.base ≡ true → fixed.off ≤ℤ param.off →
    (n : ℤ) → int_le (pos 0) n ≡ int_le (pos 0) n && int_le (at fixed n) (at param n)
meet_at_once fixed param still grows h n = low_ints fixed.off param.off (at fixed n) (at param n) n (at_still fixed n still) (at_grows param n grows) h

pub meet_later : (fixed param : Lin) (t : ℕ) → is_param fixed.base ≡ false → is_param param.base ≡ true → pos t ≡ fixed.off -ℤ param.off →
    (n : ℤ) → int_le (pos t) n ≡ int_le (pos 0) n && int_le (at fixed n) (at param n)
meet_later fixed param t still grows h n = high_ints fixed.off param.off (at fixed n) (at param n) n t (at_still fixed n still) (at_grows param n grows) h

-- ---- edges

below_low : (m low : ℤ) → int_lt m low ≡ true → m <ℤ low
below_low m low e = grind (arith, ints)

from_low : (m low : ℤ) → int_lt m low ≡ false → low ≤ℤ m
from_low m low e = grind (arith, ints)

edge_by : (range : NRange) (cuts : List Lin) (m : ℤ) (b u : Bool) → int_lt m (pos range.low) ≡ b → is_up_to m range.high ≡ u →
    (IsInRange range m → (m ≡ pos range.low) ⊎ IsMeeting cuts m) → IsEdgeOf range cuts m
edge_by range cuts m true u eb eu why = record { edge = inr (inl (below_low m (pos range.low) eb)) }
edge_by range cuts m false false eb eu why = record { edge = inr (inr eu) }
edge_by range cuts m false true eb eu why =
    let within : IsInRange range m = record { low = from_low m (pos range.low) eb; high = eu } in
    record { edge = inl (record { in_range = within; why = why within }) }

-- a number is an edge if it is a breakpoint where it is in the range
pub edge_if : (range : NRange) (cuts : List Lin) (m : ℤ) → (IsInRange range m → (m ≡ pos range.low) ⊎ IsMeeting cuts m) → IsEdgeOf range cuts m
edge_if range cuts m why = edge_by range cuts m (int_lt m (pos range.low)) (is_up_to m range.high) refl refl why

both_ways : (m low : ℤ) → m ≤ℤ low → low ≤ℤ m → m ≡ low
both_ways m low a b = omega (arith, ints)

-- and so is each number up to the low end
pub low_edge : (range : NRange) (cuts : List Lin) (m : ℤ) → m ≤ℤ pos range.low → IsEdgeOf range cuts m
low_edge range cuts m h = edge_if range cuts m (λ within. inl (both_ways m (pos range.low) h within.low))

zero_least : (k : ℕ) → pos 0 ≤ℤ pos k
zero_least k = omega (arith, ints)

pub zero_edge : (range : NRange) (cuts : List Lin) → IsEdgeOf range cuts (pos 0)
zero_edge range cuts = low_edge range cuts (pos 0) (zero_least range.low)

fixed_if : (b : Base) → is_param b ≡ false → b ≢ Var → b ≡ Fixed
fixed_if Fixed e h = refl
fixed_if Param e h = not_true (sym e)
fixed_if Var e h = absurd (h refl)

param_if : (b : Base) → is_param b ≡ true → b ≡ Param
param_if Fixed e = not_true e
param_if Param e = refl
param_if Var e = not_true e

-- where a cut that grows meets one that doesn't, and one after it
pub meeting_edge : (range : NRange) (cuts : List Lin) (fixed param : Lin) (m : ℤ) → IsCutOf cuts fixed → IsCutOf cuts param →
    is_param fixed.base ≡ false → is_param param.base ≡ true → (m ≡ fixed.off -ℤ param.off) ⊎ (m ≡ (fixed.off -ℤ param.off) +ℤ pos 1) → IsEdgeOf range cuts m
meeting_edge range cuts fixed param m f p still grows h = edge_if range cuts m (λ within. inr (record {
  d = fixed;
  c = param;
  d_in = f.there;
  c_in = p.there;
  d_fixed = fixed_if fixed.base still f.no_var;
  c_moves = param_if param.base grows;
  here = h;
}))
