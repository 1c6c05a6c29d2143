-- The N at which one cut is below another, or the same.
use Rattle.std.proofs.Common.{◌≡◌, ℕ, ℤ, pos, ◌+ℤ◌, ◌-ℤ◌, negsuc, neg_ℤ, ◌≤ℤ◌, ◌<ℤ◌, Bool, true, false, ◌&&◌, int_le, int_lt, ◌∙◌, arith, List, inr}
use Rattle.std.specs.Ordering.{int_eq}
use Rattle.std.proofs.lemmas.Int.{ints}
use Rattle.std.proofs.lemmas.Bool.Decides.{nat_tests}
use Rattle.pb_affine.specs.declared.lin.Lin.{Lin}
use Rattle.pb_affine.specs.declared.range.NRange.{NRange}
use Rattle.pb_part_areas.specs.declared.area.Area.{Area}
use Rattle.pb_part_areas.specs.Areas.{has, at, is_param, is_before}
use Rattle.pb_part_areas.specs.Fits.{IsCutOf, IsEdgeOf}
use Rattle.std.proofs.lemmas.Bool.{and_parts}
use Rattle.pb_core_language.specs.Sound.{is_small, is_bound, is_over_n}
use Rattle.pb_part_visits.specs.Visits.{is_small_off}
use Rattle.pb_part_areas.proofs.Meets.{at_still, at_grows, apart, meeting_edge}

low_ints : (f p x y n : ℤ) → x ≡ f → y ≡ p +ℤ n → f <ℤ p → int_le (pos 0) n ≡ int_le (pos 0) n && int_lt x y
low_ints f p x y n ex ey h = grind (arith, ints, nat_tests)

high_ints : (f p x y n : ℤ) (t : ℕ) → x ≡ f → y ≡ p +ℤ n → pos t ≡ (f -ℤ p) +ℤ pos 1 → int_le (pos t) n ≡ int_le (pos 0) n && int_lt x y
high_ints f p x y n t ex ey h = grind (arith, ints, nat_tests)

pub passed_at_once : (fixed param : Lin) → is_param fixed.base ≡ false → is_param param.base ≡ true → fixed.off <ℤ param.off →
    (n : ℤ) → int_le (pos 0) n ≡ int_le (pos 0) n && int_lt (at fixed n) (at param n)
passed_at_once fixed param still grows h n = low_ints fixed.off param.off (at fixed n) (at param n) n (at_still fixed n still) (at_grows param n grows) h

pub passed_later : (fixed param : Lin) (t : ℕ) → is_param fixed.base ≡ false → is_param param.base ≡ true → pos t ≡ (fixed.off -ℤ param.off) +ℤ pos 1 →
    (n : ℤ) → int_le (pos t) n ≡ int_le (pos 0) n && int_lt (at fixed n) (at param n)
passed_later fixed param t still grows h n = high_ints fixed.off param.off (at fixed n) (at param n) n t (at_still fixed n still) (at_grows param n grows) h

pub pass_edge : (range : NRange) (cuts : List Lin) (fixed param : Lin) (m : ℤ) → IsCutOf cuts fixed → IsCutOf cuts param →
    is_param fixed.base ≡ false → is_param param.base ≡ true → m ≡ (fixed.off -ℤ param.off) +ℤ pos 1 → IsEdgeOf range cuts m
pass_edge range cuts fixed param m f p still grows h = meeting_edge range cuts fixed param m f p still grows (inr h)

-- ---- parts of areas

below_bools : (h : Bool) (p q a b : ℤ) → p -ℤ a ≡ q -ℤ b → a <ℤ b → h ≡ h && int_lt p q
below_bools h p q a b e k = grind (arith, ints, nat_tests)

above_bools : (h r : Bool) (p q a b : ℤ) → p -ℤ a ≡ q -ℤ b → b ≤ℤ a → r ≡ false → r ≡ h && int_lt p q
above_bools h r p q a b e k none = grind (arith, ints, nat_tests)

same_bools : (h : Bool) (p q a b : ℤ) → p -ℤ a ≡ q -ℤ b → a ≡ b → h ≡ h && int_eq p q
same_bools h p q a b e k = grind (arith, ints, nat_tests)

unlike_bools : (h r : Bool) (p q a b : ℤ) → p -ℤ a ≡ q -ℤ b → (a ≡ b → ⊥) → r ≡ false → r ≡ h && int_eq p q
unlike_bools h r p q a b e k none = grind (arith, ints, nat_tests)

pub always_below : (low end : Lin) (h : Bool) (n : ℤ) → is_param low.base ≡ is_param end.base → low.off <ℤ end.off → h ≡ h && int_lt (at low n) (at end n)
always_below low end h n e k = below_bools h (at low n) (at end n) low.off end.off (apart low end n e) k

pub never_below : (low end : Lin) (h r : Bool) (n : ℤ) → is_param low.base ≡ is_param end.base → end.off ≤ℤ low.off → r ≡ false → r ≡ h && int_lt (at low n) (at end n)
never_below low end h r n e k none = above_bools h r (at low n) (at end n) low.off end.off (apart low end n e) k none

pub always_same : (one other : Lin) (h : Bool) (n : ℤ) → is_param one.base ≡ is_param other.base → one.off ≡ other.off → h ≡ h && int_eq (at one n) (at other n)
always_same one other h n e k = same_bools h (at one n) (at other n) one.off other.off (apart one other n e) k

pub never_same : (one other : Lin) (h r : Bool) (n : ℤ) → is_param one.base ≡ is_param other.base → (one.off ≡ other.off → ⊥) → r ≡ false → r ≡ h && int_eq (at one n) (at other n)
never_same one other h r n e k none = unlike_bools h r (at one n) (at other n) one.off other.off (apart one other n e) k none

none_bools : (p u r : Bool) (n : ℤ) (from : ℕ) → r ≡ (p && int_le (pos from) n && u) && int_lt n (pos 0) → r ≡ false
none_bools p u r n from e = grind (arith, ints, nat_tests)

-- no part of an area is before N = 0
pub none_before : (a : Area) (r : Bool) (n : ℤ) (role : ℕ) (x : ℤ) → r ≡ has a n role x && int_lt n (pos 0) → r ≡ false
none_before a r n role x e = none_bools _ (is_before n a.until) r n a.from e

since_bools : (p u r t e : Bool) (n : ℤ) (from : ℕ) → t ≡ int_le (pos 0) n && e → r ≡ (p && int_le (pos from) n && u) && t → r ≡ (p && int_le (pos from) n && u) && e
since_bools p u r t e n from k h = grind (arith, ints, nat_tests)

-- from the N on at which something holds from 0 on
pub part_since : (a : Area) (r t e : Bool) (n : ℤ) (role : ℕ) (x : ℤ) → t ≡ int_le (pos 0) n && e → r ≡ has a n role x && t → r ≡ has a n role x && e
part_since a r t e n role x k h = since_bools _ (is_before n a.until) r t e n a.from k h

until_bools : (p u r : Bool) (n low end : ℤ) (from t : ℕ) → int_le (pos t) n ≡ int_le (pos 0) n && int_le end low → r ≡ (p && int_le (pos from) n && u) && int_lt n (pos t) → r ≡ (p && int_le (pos from) n && u) && int_lt low end
until_bools p u r n low end from t k h = grind (arith, ints, nat_tests)

pub part_until : (a : Area) (r : Bool) (n low end : ℤ) (t : ℕ) (role : ℕ) (x : ℤ) → int_le (pos t) n ≡ int_le (pos 0) n && int_le end low → r ≡ has a n role x && int_lt n (pos t) → r ≡ has a n role x && int_lt low end
part_until a r n low end t role x k h = until_bools _ (is_before n a.until) r n low end a.from t k h

met_bools : (p u r s : Bool) (n f g : ℤ) (from t v : ℕ) → int_le (pos t) n ≡ int_le (pos 0) n && int_le f g → int_le (pos v) n ≡ int_le (pos 0) n && int_lt f g →
    s ≡ (p && int_le (pos from) n && u) && int_le (pos t) n → r ≡ s && int_lt n (pos v) → r ≡ (p && int_le (pos from) n && u) && int_eq f g
met_bools p u r s n f g from t v kt kv hs h = grind (arith, ints, nat_tests)

pub part_met : (a : Area) (r s : Bool) (n f g : ℤ) (t v : ℕ) (role : ℕ) (x : ℤ) → int_le (pos t) n ≡ int_le (pos 0) n && int_le f g → int_le (pos v) n ≡ int_le (pos 0) n && int_lt f g →
    s ≡ has a n role x && int_le (pos t) n → r ≡ s && int_lt n (pos v) → r ≡ has a n role x && int_eq f g
part_met a r s n f g t v role x kt kv hs h = met_bools _ (is_before n a.until) r s n f g a.from t v kt kv hs h

turned_bools : (h : Bool) (a b : ℤ) → h && int_eq a b ≡ h && int_eq b a
turned_bools h a b = grind (arith, ints, nat_tests)

pub met_turned : (one other : Lin) (h r : Bool) (n : ℤ) → r ≡ h && int_eq (at other n) (at one n) → r ≡ h && int_eq (at one n) (at other n)
met_turned one other h r n e = e ∙ turned_bools h (at other n) (at one n)

-- ---- offsets near 0

gap_least : (a b : ℤ) → b ≤ℤ a → pos 0 ≤ℤ ((a -ℤ b) +ℤ pos 1)
gap_least a b h = omega (arith, ints)

pub gap_low : (a b : ℤ) → is_small_off a ≡ true → is_small_off b ≡ true → b ≤ℤ a → pos 0 ≤ℤ ((a -ℤ b) +ℤ pos 1)
gap_low a b ha hb h = gap_least a b h

gap_parts : (a b : ℤ) → a ≤ℤ pos 1000000 → negsuc 999999 ≤ℤ b → ((a -ℤ b) +ℤ pos 1) ≤ℤ pos 4000000
gap_parts a b ha hb = omega (arith, ints)

off_high : (a : ℤ) → is_small_off a ≡ true → a ≤ℤ pos 1000000
off_high a h = grind (arith, ints, nat_tests)

off_low : (a : ℤ) → is_small_off a ≡ true → negsuc 999999 ≤ℤ a
off_low a h = grind (arith, ints, nat_tests)

pub gap_high : (a b : ℤ) → is_small_off a ≡ true → is_small_off b ≡ true → ((a -ℤ b) +ℤ pos 1) ≤ℤ pos 4000000
gap_high a b ha hb = gap_parts a b (off_high a ha) (off_low b hb)

pub off_within : (a : ℤ) → negsuc 999999 ≤ℤ a → a ≤ℤ pos 1000000 → is_small_off a ≡ true
off_within a h k = grind (arith, ints, nat_tests)

small_high : (a : ℤ) → is_small a ≡ true → a ≤ℤ pos 100000
small_high a h = grind (arith, ints, nat_tests)

small_low : (a : ℤ) → is_small a ≡ true → negsuc 99999 ≤ℤ a
small_low a h = grind (arith, ints, nat_tests)

pub small_off : (a : ℤ) → is_small a ≡ true → is_small_off a ≡ true
small_off a h = let k = small_high a h in let l = small_low a h in off_within a (omega (arith, ints)) (omega (arith, ints))

pub small_next : (a : ℤ) → is_small a ≡ true → is_small_off (a +ℤ pos 1) ≡ true
small_next a h = let k = small_high a h in let l = small_low a h in off_within (a +ℤ pos 1) (omega (arith, ints)) (omega (arith, ints))

pub small_sum : (a b : ℤ) → is_small a ≡ true → is_small b ≡ true → is_small_off (a +ℤ b) ≡ true
small_sum a b h i =
    let k = small_high a h in let l = small_low a h in let m = small_high b i in let o = small_low b i in
    off_within (a +ℤ b) (omega (arith, ints)) (omega (arith, ints))

pub small_sum_next : (a b : ℤ) → is_small a ≡ true → is_small b ≡ true → is_small_off (a +ℤ b +ℤ pos 1) ≡ true
small_sum_next a b h i =
    let k = small_high a h in let l = small_low a h in let m = small_high b i in let o = small_low b i in
    off_within (a +ℤ b +ℤ pos 1) (omega (arith, ints)) (omega (arith, ints))

pub small_back : (a : ℤ) → is_small a ≡ true → is_small_off (neg_ℤ a) ≡ true
small_back a h = let k = small_high a h in let l = small_low a h in off_within (neg_ℤ a) (omega (arith, ints)) (omega (arith, ints))

pub small_back_sum : (a b : ℤ) → is_small a ≡ true → is_small b ≡ true → is_small_off (neg_ℤ a +ℤ b) ≡ true
small_back_sum a b h i =
    let k = small_high a h in let l = small_low a h in let m = small_high b i in let o = small_low b i in
    off_within (neg_ℤ a +ℤ b) (omega (arith, ints)) (omega (arith, ints))

pub small_of_bound : (l : Lin) → is_bound l ≡ true → is_small l.off ≡ true
small_of_bound l h = (and_parts (is_over_n l.base) (is_small l.off) h).1

pub over_of_bound : (l : Lin) → is_bound l ≡ true → is_over_n l.base ≡ true
over_of_bound l h = (and_parts (is_over_n l.base) (is_small l.off) h).0

pub gap_number : (a b : ℤ) (t : ℕ) → is_small_off a ≡ true → is_small_off b ≡ true → b ≤ℤ a → (pos 0 ≤ℤ ((a -ℤ b) +ℤ pos 1) → ((a -ℤ b) +ℤ pos 1) ≤ℤ pos 4000000 → pos t ≡ (a -ℤ b) +ℤ pos 1) → pos t ≡ (a -ℤ b) +ℤ pos 1
gap_number a b t ha hb h k = k (gap_low a b ha hb h) (gap_high a b ha hb)
