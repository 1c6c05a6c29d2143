-- Parts of an area.
use Rattle.std.proofs.Common.{◌≡◌, ℕ, ℤ, pos, ◌+ℤ◌, ◌-ℤ◌, ◌≤ℤ◌, Bool, true, false, ◌&&◌, int_le, int_lt, nat_eq, arith, ap, sym, ◌∙◌, List, Option, Some}
use Rattle.std.proofs.lemmas.Int.{ints}
use Rattle.std.proofs.lemmas.Bool.Decides.{nat_tests}
use Rattle.pb_affine.specs.declared.lin.Lin.{Lin}
use Rattle.pb_affine.specs.declared.range.NRange.{NRange}
use Rattle.pb_part_areas.specs.declared.area.Area.{Area}
use Rattle.pb_part_areas.specs.Areas.{has, at, is_before, is_param, IsUpright}
use Rattle.pb_part_areas.specs.Fits.{Fits, IsCutOf, IsEdgeOf, IsEdgeOfIf}
use Rattle.pb_part_areas.proofs.Bools as bools
use Rattle.pb_part_areas.proofs.Meets.{apart, at_still, at_grows, zero_edge}

-- ---- for some of the numbers N

pub since_is : (a : Area) (t from : ℕ) → ((n : ℤ) → int_le (pos from) n ≡ int_le (pos a.from) n && int_le (pos t) n) →
    (n : ℤ) (role : ℕ) (x : ℤ) → has (record a { from = from }) n role x ≡ has a n role x && int_le (pos t) n
since_is a t from h n role x = bools.since_is (nat_eq role a.role && int_le (at a.low n) x && int_lt x (at a.end n)) (int_le (pos a.from) n) (int_le (pos t) n) (is_before n a.until) _ (h n)

pub until_is : (a : Area) (t : ℕ) (end : Option ℕ) → ((n : ℤ) → is_before n end ≡ is_before n a.until && int_lt n (pos t)) →
    (n : ℤ) (role : ℕ) (x : ℤ) → has (record a { until = end }) n role x ≡ has a n role x && int_lt n (pos t)
until_is a t end h n role x = bools.until_is (nat_eq role a.role && int_le (at a.low n) x && int_lt x (at a.end n)) (int_le (pos a.from) n) (is_before n a.until) (int_lt n (pos t)) _ (h n)

pub nowhere_is : (a : Area) (n : ℤ) (role : ℕ) (x : ℤ) → has (record a { from = 0; until = Some 0 }) n role x ≡ false
nowhere_is a n role x = bools.nowhere_is (nat_eq role a.role && int_le (at a.low n) x && int_lt x (at a.end n)) n

pub fits_since : (range : NRange) (cuts : List Lin) (a : Area) (from : ℕ) → Fits range cuts a → IsEdgeOf range cuts (pos from) → Fits range cuts (record a { from = from })
fits_since range cuts a from f e = record { low = f.low; end = f.end; from = e; until = f.until }

pub fits_until : (range : NRange) (cuts : List Lin) (a : Area) (until : Option ℕ) → Fits range cuts a → IsEdgeOfIf range cuts until → Fits range cuts (record a { until = until })
fits_until range cuts a until f e = record { low = f.low; end = f.end; from = f.from; until = e }

pub fits_low : (range : NRange) (cuts : List Lin) (a : Area) (low : Lin) → Fits range cuts a → IsCutOf cuts low → Fits range cuts (record a { low = low })
fits_low range cuts a low f e = record { low = e; end = f.end; from = f.from; until = f.until }

pub fits_end : (range : NRange) (cuts : List Lin) (a : Area) (end : Lin) → Fits range cuts a → IsCutOf cuts end → Fits range cuts (record a { end = end })
fits_end range cuts a end f e = record { low = f.low; end = e; from = f.from; until = f.until }

pub fits_nowhere : (range : NRange) (cuts : List Lin) (a : Area) → Fits range cuts a → Fits range cuts (record a { from = 0; until = Some 0 })
fits_nowhere range cuts a f = record { low = f.low; end = f.end; from = zero_edge range cuts; until = zero_edge range cuts }

-- ---- nothing

pub over : (a : Area) → ((n : ℤ) → int_le (pos a.from) n && is_before n a.until ≡ false) → (n : ℤ) (role : ℕ) (x : ℤ) → has a n role x ≡ false
over a h n role x = bools.over_bools (nat_eq role a.role && int_le (at a.low n) x && int_lt x (at a.end n)) _ _ (h n)

pub empty_same : (a : Area) → is_param a.low.base ≡ is_param a.end.base → int_le a.end.off a.low.off ≡ true → (n : ℤ) (role : ℕ) (x : ℤ) → has a n role x ≡ false
empty_same a e h n role x =
    bools.none_between (nat_eq role a.role) (int_le (pos a.from) n) (is_before n a.until) (at a.low n) (at a.end n) x (omega (arith, ints, apart a.low a.end n e))

pub empty_from : (a : Area) → is_param a.low.base ≡ true → is_param a.end.base ≡ false → int_le (a.end.off +ℤ pos 0) (a.low.off +ℤ pos a.from) ≡ true → (n : ℤ) (role : ℕ) (x : ℤ) → has a n role x ≡ false
empty_from a grows still h n role x =
    bools.none_from (nat_eq role a.role) (is_before n a.until) a.low.off a.end.off (at a.low n) (at a.end n) x n a.from (at_grows a.low n grows) (at_still a.end n still) (omega (arith, ints))

pub empty_until : (a : Area) (until : ℕ) → is_param a.low.base ≡ false → is_param a.end.base ≡ true → a.until ≡ Some until → int_le (a.end.off +ℤ pos until) (a.low.off +ℤ pos 1) ≡ true → (n : ℤ) (role : ℕ) (x : ℤ) → has a n role x ≡ false
empty_until a until still grows is h n role x =
    ap (λ u. nat_eq role a.role && int_le (at a.low n) x && int_lt x (at a.end n) && int_le (pos a.from) n && is_before n u) is
    ∙ bools.none_until (nat_eq role a.role) (int_le (pos a.from) n) a.low.off a.end.off (at a.low n) (at a.end n) x n until (at_still a.low n still) (at_grows a.end n grows) (omega (arith, ints))

-- ---- an end that isn't below the low end

distant : (a b p q : ℤ) → a ≤ℤ b → p -ℤ a ≡ q -ℤ b → p ≤ℤ q
distant a b p q h e = omega (arith, ints)

pub upright_same : (a : Area) → is_param a.low.base ≡ is_param a.end.base → int_le a.low.off a.end.off ≡ true → IsUpright a
upright_same a e h = record { upright = λ n k. distant a.low.off a.end.off (at a.low n) (at a.end n) (omega (arith, ints)) (apart a.low a.end n e) }

pub below_same : (l h : Lin) → is_param l.base ≡ is_param h.base → int_le l.off h.off ≡ true → (n : ℤ) → at l n ≤ℤ at h n
below_same l h e k n = distant l.off h.off (at l n) (at h n) (omega (arith, ints)) (apart l h n e)

from_on : (l e low end n : ℤ) (from : ℕ) (u : Bool) → low ≡ l → end ≡ e +ℤ n → (l +ℤ pos 0) ≤ℤ (e +ℤ pos from) → int_le (pos from) n && u ≡ true → low ≤ℤ end
from_on l e low end n from u hl he h k = grind (arith, ints, nat_tests)

up_to : (l e low end n : ℤ) (until : ℕ) (f : Bool) → low ≡ l +ℤ n → end ≡ e → (l +ℤ pos until) ≤ℤ (e +ℤ pos 1) → f && int_lt n (pos until) ≡ true → low ≤ℤ end
up_to l e low end n until f hl he h k = grind (arith, ints, nat_tests)

pub upright_from : (a : Area) → is_param a.low.base ≡ false → is_param a.end.base ≡ true → int_le (a.low.off +ℤ pos 0) (a.end.off +ℤ pos a.from) ≡ true → IsUpright a
upright_from a still grows h = record {
  upright = λ n k.
      from_on a.low.off a.end.off (at a.low n) (at a.end n) n a.from (is_before n a.until) (at_still a.low n still) (at_grows a.end n grows) (omega (arith, ints)) k;
}

pub upright_until : (a : Area) (until : ℕ) → is_param a.low.base ≡ true → is_param a.end.base ≡ false → a.until ≡ Some until → int_le (a.low.off +ℤ pos until) (a.end.off +ℤ pos 1) ≡ true → IsUpright a
upright_until a until grows still is h = record {
  upright = λ n k.
      up_to a.low.off a.end.off (at a.low n) (at a.end n) n until (int_le (pos a.from) n) (at_grows a.low n grows) (at_still a.end n still) (omega (arith, ints))
      (ap (λ u. int_le (pos a.from) n && is_before n u) (sym is) ∙ k);
}
