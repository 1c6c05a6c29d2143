-- Of ascending values, all lead to a column exactly where the least and the greatest do.
use Rattle.std.proofs.Common.{◌≡◌, ℕ, zero, suc, ◌+◌, ◌-◌, ◌≤◌, ◌<◌, ℤ, pos, ◌+ℤ◌, ◌≤ℤ◌, int_le, Bool, true, false, not, ◌&&◌, ◌||◌, nat_le, refl, sym, ap, ◌∙◌, arith}
use Rattle.std.proofs.lemmas.Bool.{and_parts, leb-true, leb-false}
use Rattle.std.proofs.lemmas.Int.{ints}
use Rattle.pb_strips_syntax.specs.Columns.{up_from, numbers}
use Rattle.pb_strips_faults.specs.Faults.{is_within, leads_out}

both : (a b : Bool) → a ≡ true → b ≡ true → (a && b) ≡ true
both true b p q = q
both false b p q = p

le_test : (a b : ℤ) → a ≤ℤ b → int_le a b ≡ true
le_test a b h = grind (arith, ints)

between : (ends : ℕ × ℕ) (off : ℤ) (a b c : ℕ) → a ≤ b → b ≤ c
    → is_within ends (pos a +ℤ off) ≡ true → is_within ends (pos c +ℤ off) ≡ true → is_within ends (pos b +ℤ off) ≡ true
between ends off a b c ab bc wa wc =
    let first : int_le (pos ends.0) (pos a +ℤ off) ≡ true = (and_parts (int_le (pos ends.0) (pos a +ℤ off)) (int_le (pos a +ℤ off) (pos ends.1)) wa).0 in
    let last : int_le (pos c +ℤ off) (pos ends.1) ≡ true = (and_parts (int_le (pos ends.0) (pos c +ℤ off)) (int_le (pos c +ℤ off) (pos ends.1)) wc).1 in
    both (int_le (pos ends.0) (pos b +ℤ off)) (int_le (pos b +ℤ off) (pos ends.1))
    (le_test (pos ends.0) (pos b +ℤ off) (omega (arith, ints, first, ab)))
    (le_test (pos b +ℤ off) (pos ends.1) (omega (arith, ints, last, bc)))

by_outer : (a b c : Bool) → (a ≡ true → c ≡ true → b ≡ true) → (not a || (not b || not c)) ≡ (not a || not c)
by_outer false b c h = refl
by_outer true true c h = refl
by_outer true false false h = refl
by_outer true false true h = sym (h refl refl)

twice : (a : Bool) → (a || false) ≡ (a || a)
twice true = refl
twice false = refl

from_low : (ends : ℕ × ℕ) (off : ℤ) (n low : ℕ)
    → leads_out ends off (up_from low (suc n)) ≡ (not (is_within ends (pos low +ℤ off)) || not (is_within ends (pos (low + n) +ℤ off)))
from_low ends off zero low =
    let same : low ≡ low + 0 = omega arith in
    twice (not (is_within ends (pos low +ℤ off)))
    ∙ ap (λ (k : ℕ). not (is_within ends (pos low +ℤ off)) || not (is_within ends (pos k +ℤ off))) same
from_low ends off (suc n) low =
    let same : suc low + n ≡ low + suc n = omega arith in
    ap (λ (b : Bool). not (is_within ends (pos low +ℤ off)) || b) (from_low ends off n (suc low))
    ∙ by_outer (is_within ends (pos low +ℤ off)) (is_within ends (pos (suc low) +ℤ off)) (is_within ends (pos (suc low + n) +ℤ off))
    (between ends off low (suc low) (suc low + n) (omega arith) (omega arith))
    ∙ ap (λ (k : ℕ). not (is_within ends (pos low +ℤ off)) || not (is_within ends (pos k +ℤ off))) same

by_test : (ends : ℕ × ℕ) (off : ℤ) (low high : ℕ) (t : Bool) → nat_le low high ≡ t
    → leads_out ends off (numbers low high) ≡ (t && (not (is_within ends (pos low +ℤ off)) || not (is_within ends (pos high +ℤ off))))
by_test ends off low high true t =
    let le : low ≤ high = leb-true low high t in
    let some : suc high - low ≡ suc (high - low) = omega (arith, le) in
    let last : low + (high - low) ≡ high = omega (arith, le) in
    ap (λ (k : ℕ). leads_out ends off (up_from low k)) some
    ∙ from_low ends off (high - low) low
    ∙ ap (λ (k : ℕ). not (is_within ends (pos low +ℤ off)) || not (is_within ends (pos k +ℤ off))) last
by_test ends off low high false t =
    let less : high < low = leb-false low high t in
    let none : suc high - low ≡ 0 = omega (arith, less) in
    ap (λ (k : ℕ). leads_out ends off (up_from low k)) none

pub by_ends : (ends : ℕ × ℕ) (off : ℤ) (low high : ℕ)
    → leads_out ends off (numbers low high) ≡ (nat_le low high && (not (is_within ends (pos low +ℤ off)) || not (is_within ends (pos high +ℤ off))))
by_ends ends off low high = by_test ends off low high (nat_le low high) refl
