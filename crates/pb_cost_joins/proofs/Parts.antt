-- The first numbers of a span.
use Rattle.std.proofs.Common.{◌≡◌, ℕ, ◌<◌, ◌≤◌, ℤ, pos, ◌+ℤ◌, ◌≤ℤ◌, ◌<ℤ◌, int_le, true, false, Bool, Some, None, refl, subst, arith}
use Rattle.std.proofs.lemmas.Int.{ints}
use Rattle.pb_cost_joins.specs.declared.span.Span.{Span}
use Rattle.pb_cost_joins.specs.Adding.{IsKept}

le_same : (x : ℤ) → x ≤ℤ x
le_same x = omega (arith, ints)

le_by : (n m : ℤ) (b : Bool) → int_le n m ≡ b → n ≤ℤ m → int_le n m ≡ true
le_by n m true e h = e
le_by n m false e h = absurd (omega (arith, ints, e, h))

le_is : (n m : ℤ) → n ≤ℤ m → int_le n m ≡ true
le_is n m h = le_by n m (int_le n m) refl h

gt_by : (n m : ℤ) (b : Bool) → int_le n m ≡ b → m <ℤ n → int_le n m ≡ false
gt_by n m true e h = absurd (omega (arith, ints, e, h))
gt_by n m false e h = e

gt_is : (n m : ℤ) → m <ℤ n → int_le n m ≡ false
gt_is n m h = gt_by n m (int_le n m) refl h

none_behind : (x n : ℤ) → x <ℤ n → n ≤ℤ x → ⊥
none_behind x n h k = omega (arith, ints, h, k)

pub all_kept : (span : Span) → IsKept None span span
all_kept span = record { from = refl; within = le_same span.to; kept = λ n low high. refl; other = λ n low high. absurd (none_behind span.to n low high) }

reached_le : (x y n : ℤ) (steps length : ℕ) → pos length +ℤ x ≡ y → length ≤ steps → n ≤ℤ y → n ≤ℤ (x +ℤ pos steps)
reached_le x y n steps length e h k = omega (arith, ints, e, h, k)

reached : (x y n : ℤ) (steps length : ℕ) → pos length +ℤ x ≡ y → length ≤ steps → n ≤ℤ y → int_le n (x +ℤ pos steps) ≡ true
reached x y n steps length e h k = le_is n (x +ℤ pos steps) (reached_le x y n steps length e h k)

pub enough_kept : (steps length : ℕ) (span : Span) → pos length +ℤ span.from ≡ span.to → length ≤ steps → IsKept (Some steps) span span
enough_kept steps length span e h = record { from = refl; within = le_same span.to; kept = λ n low high. reached span.from span.to n steps length e h high; other = λ n low high. absurd (none_behind span.to n low high) }

within_to : (x y p : ℤ) (steps length : ℕ) → pos length +ℤ x ≡ y → steps < length → p ≡ x +ℤ pos steps → p ≤ℤ y
within_to x y p steps length e h f = omega (arith, ints, e, h, f)

still_kept : (x p n : ℤ) (steps : ℕ) → p ≡ x +ℤ pos steps → n ≤ℤ p → int_le n (x +ℤ pos steps) ≡ true
still_kept x p n steps f k = le_is n (x +ℤ pos steps) (subst (λ y. n ≤ℤ y) f k)

then_other : (x p n : ℤ) (steps : ℕ) → p ≡ x +ℤ pos steps → p <ℤ n → int_le n (x +ℤ pos steps) ≡ false
then_other x p n steps f k = gt_is n (x +ℤ pos steps) (subst (λ y. y <ℤ n) f k)

pub few_kept : (steps length : ℕ) (span part : Span) → pos length +ℤ span.from ≡ span.to → steps < length → part.from ≡ span.from → part.to ≡ span.from +ℤ pos steps → IsKept (Some steps) span part
few_kept steps length span part e h from to = record {
  from = from;
  within = within_to span.from span.to part.to steps length e h to;
  kept = λ n low high. still_kept span.from part.to n steps to high;
  other = λ n low high. then_other span.from part.to n steps to low;
}
