-- Where two lines cross.
use Rattle.std.proofs.Common.{◌≡◌, ℕ, ◌*◌, ◌<◌, ◌≤◌, ℤ, pos, negsuc, ◌+ℤ◌, ◌-ℤ◌, ◌*ℤ◌, ◌≤ℤ◌, ◌<ℤ◌, true, false, int_le, Option, Some, None, refl, sym, ap, ◌∙◌, arith}
use Rattle.std.proofs.lemmas.Int.{ints}
use lib.IntN.{zero-*ℤ}
use Rattle.pb_cost_pieces.specs.declared.ray.Ray.{Ray}
use Rattle.pb_cost_pieces.specs.Joined.{ray_at, StaysBelow, Lasts, endless, ended}
use Rattle.pb_cost_pieces.proofs.Products.{sum_times}
use Rattle.pb_cost_pieces.proofs.Lines.{along_is, along_difference}

-- ---- a gap

rising : (slope : ℤ) (j : ℕ) → pos 0 ≤ℤ slope → pos 0 ≤ℤ (slope *ℤ pos j)
rising (pos a) j h = omega (arith, ints)
rising (negsuc a) j h = absurd (omega (arith, ints, h))

sum_low : (a b : ℤ) → pos 0 ≤ℤ a → pos 0 ≤ℤ b → pos 0 ≤ℤ (a +ℤ b)
sum_low a b h g = omega (arith, ints, h, g)

pub always : (gap slope : ℤ) → pos 0 ≤ℤ gap → pos 0 ≤ℤ slope → Lasts None gap slope
always gap slope h g = endless gap slope (λ j. sum_low gap (slope *ℤ pos j) h (rising slope j g))

-- a falling gap, as natural numbers
falls : (slope : ℤ) (s j : ℕ) → pos s ≡ pos 0 -ℤ slope → slope *ℤ pos j +ℤ pos (s * j) ≡ pos 0
falls slope s j e = sym (sum_times slope (pos s) (pos j)) ∙ ap (λ x. x *ℤ pos j) (none slope (pos s) e) ∙ zero-*ℤ (pos j) where
  none : (a b : ℤ) → b ≡ pos 0 -ℤ a → a +ℤ b ≡ pos 0
  none a b h = omega (arith, ints, h)

stays : (gap p : ℤ) (g q : ℕ) → pos g ≡ gap → p +ℤ pos q ≡ pos 0 → q ≤ g → pos 0 ≤ℤ (gap +ℤ p)
stays gap p g q e f h = omega (arith, ints, e, f, h)

sinks : (gap p : ℤ) (g q : ℕ) → pos g ≡ gap → p +ℤ pos q ≡ pos 0 → g < q → (gap +ℤ p) <ℤ pos 0
sinks gap p g q e f h = omega (arith, ints, e, f, h)

pub for_some : (gap slope : ℤ) (g s steps : ℕ) → pos g ≡ gap → pos s ≡ pos 0 -ℤ slope → ((j : ℕ) → j ≤ steps → s * j ≤ g) → ((j : ℕ) → steps < j → g < s * j) → Lasts (Some steps) gap slope
for_some gap slope g s steps e f below above = ended steps gap slope
    (λ j le. stays gap (slope *ℤ pos j) g (s * j) e (falls slope s j f) (below j le))
    (λ j lt. sinks gap (slope *ℤ pos j) g (s * j) e (falls slope s j f) (above j lt))

-- ---- two lines

-- how far n stands behind x
behind : (x n : ℤ) → x ≤ℤ n → (j : ℕ) × (n -ℤ x ≡ pos j)
behind x n h = natural (n -ℤ x) (omega (arith, ints, h)) where
  natural : (z : ℤ) → pos 0 ≤ℤ z → (j : ℕ) × (z ≡ pos j)
  natural (pos j) le = (j, refl)
  natural (negsuc j) le = absurd (omega (arith, ints, le))

gap_at : (lower upper : Ray) (x n : ℤ) (j : ℕ) → n -ℤ x ≡ pos j → (upper.start -ℤ lower.start) +ℤ (upper.slope -ℤ lower.slope) *ℤ pos j ≡ ray_at upper x n -ℤ ray_at lower x n
gap_at lower upper x n j e = ap (λ z. (upper.start -ℤ lower.start) +ℤ (upper.slope -ℤ lower.slope) *ℤ z) (sym e) ∙ sym (along_is (upper.start -ℤ lower.start) (upper.slope -ℤ lower.slope) x n) ∙ along_difference upper.start lower.start upper.slope lower.slope x n

at_least : (a b d : ℤ) → d ≡ b -ℤ a → pos 0 ≤ℤ d → a ≤ℤ b
at_least a b d e h = omega (arith, ints, e, h)

less : (a b d : ℤ) → d ≡ b -ℤ a → d <ℤ pos 0 → b <ℤ a
less a b d e h = omega (arith, ints, e, h)

within : (x n : ℤ) (steps j : ℕ) → n -ℤ x ≡ pos j → int_le n (x +ℤ pos steps) ≡ true → j ≤ steps
within x n steps j e h = omega (arith, ints, e, h)

beyond : (x n : ℤ) (steps j : ℕ) → n -ℤ x ≡ pos j → int_le n (x +ℤ pos steps) ≡ false → steps < j
beyond x n steps j e h = omega (arith, ints, e, h)

pub stays_below : (steps : Option ℕ) (lower upper : Ray) → Lasts steps (upper.start -ℤ lower.start) (upper.slope -ℤ lower.slope) → StaysBelow steps lower upper
stays_below None lower upper (endless _ _ is) = record {
  below = λ x n le h. let it = behind x n le in at_least (ray_at lower x n) (ray_at upper x n) _ (gap_at lower upper x n it.0 it.1) (is it.0);
  above = λ x n le h. absurd (let e : true ≡ false = h in cc);
}
stays_below (Some steps) lower upper (ended _ _ _ is isnt) = record {
  below = λ x n le h. let it = behind x n le in at_least (ray_at lower x n) (ray_at upper x n) _ (gap_at lower upper x n it.0 it.1) (is it.0 (within x n steps it.0 it.1 h));
  above = λ x n le h. let it = behind x n le in less (ray_at lower x n) (ray_at upper x n) _ (gap_at lower upper x n it.0 it.1) (isnt it.0 (beyond x n steps it.0 it.1 h));
}
