-- Products of a weight with whole numbers.
use Rattle.std.proofs.Common.{◌≡◌, ◌*◌, ℕ, ℤ, pos, negsuc, ◌+ℤ◌, ◌-ℤ◌, ◌*ℤ◌, ◌≤ℤ◌, arith}
use Rattle.std.proofs.lemmas.Int.{ints}
use Rattle.pb_cost_pieces.proofs.Products.{times_sum_is}

not_below : (x : ℕ) → pos 0 ≤ℤ negsuc x → ⊥
not_below x h = omega (arith, ints, h)

not_negative : (x : ℕ) → pos 0 ≤ℤ pos x
not_negative x = omega (arith, ints)

times_low : (w d : ℤ) → pos 0 ≤ℤ w → pos 0 ≤ℤ d → pos 0 ≤ℤ (w *ℤ d)
times_low (pos a) (pos b) h k = not_negative (a * b)
times_low (pos a) (negsuc b) h k = absurd (not_below b k)
times_low (negsuc a) d h k = absurd (not_below a h)

gap : (x y : ℤ) → y ≡ x +ℤ (y -ℤ x)
gap x y = omega (arith, ints)

gap_low : (x y : ℤ) → x ≤ℤ y → pos 0 ≤ℤ (y -ℤ x)
gap_low x y h = omega (arith, ints, h)

le_by_gap : (p q d : ℤ) → q ≡ p +ℤ d → pos 0 ≤ℤ d → p ≤ℤ q
le_by_gap p q d e h = omega (arith, ints, e, h)

-- a product with a weight keeps the order
pub times_le : (w x y : ℤ) → pos 0 ≤ℤ w → x ≤ℤ y → (w *ℤ x) ≤ℤ (w *ℤ y)
times_le w x y h k = le_by_gap (w *ℤ x) (w *ℤ y) (w *ℤ (y -ℤ x)) (times_sum_is w x (y -ℤ x) y (gap x y)) (times_low w (y -ℤ x) h (gap_low x y k))

low_from : (p w : ℤ) → (w *ℤ negsuc 900000200000) ≤ℤ p → w ≤ℤ pos 4100000 → negsuc 3999999999999999999 ≤ℤ p
low_from p w h k = omega (arith, ints, h, k)

high_from : (p w : ℤ) → p ≤ℤ (w *ℤ pos 900000200001) → w ≤ℤ pos 4100000 → p ≤ℤ pos 4000000000000000000
high_from p w h k = omega (arith, ints, h, k)

pub start_low : (w x : ℤ) → pos 0 ≤ℤ w → w ≤ℤ pos 4100000 → negsuc 900000200000 ≤ℤ x → negsuc 3999999999999999999 ≤ℤ (w *ℤ x)
start_low w x low high h = low_from (w *ℤ x) w (times_le w (negsuc 900000200000) x low h) high

pub start_high : (w x : ℤ) → pos 0 ≤ℤ w → w ≤ℤ pos 4100000 → x ≤ℤ pos 900000200001 → (w *ℤ x) ≤ℤ pos 4000000000000000000
start_high w x low high h = high_from (w *ℤ x) w (times_le w x (pos 900000200001) low h) high

slope_low_from : (p w : ℤ) → (w *ℤ negsuc 0) ≤ℤ p → w ≤ℤ pos 4100000 → negsuc 4099999 ≤ℤ p
slope_low_from p w h k = omega (arith, ints, h, k)

slope_high_from : (p w : ℤ) → p ≤ℤ (w *ℤ pos 1) → w ≤ℤ pos 4100000 → p ≤ℤ pos 4100000
slope_high_from p w h k = omega (arith, ints, h, k)

pub slope_low : (w x : ℤ) → pos 0 ≤ℤ w → w ≤ℤ pos 4100000 → negsuc 0 ≤ℤ x → negsuc 4099999 ≤ℤ (w *ℤ x)
slope_low w x low high h = slope_low_from (w *ℤ x) w (times_le w (negsuc 0) x low h) high

pub slope_high : (w x : ℤ) → pos 0 ≤ℤ w → w ≤ℤ pos 4100000 → x ≤ℤ pos 1 → (w *ℤ x) ≤ℤ pos 4100000
slope_high w x low high h = slope_high_from (w *ℤ x) w (times_le w x (pos 1) low h) high
