-- Areas with ends that don't move.
use Rattle.std.proofs.Common.{◌≡◌, ℕ, ℤ, pos, ◌≤ℤ◌, Bool, true, false, ◌||◌, int_le, int_lt, refl, ap, arith}
use Rattle.std.proofs.lemmas.Bool.{false≢true, or_right}
use Rattle.std.proofs.lemmas.Int.{ints}
use Rattle.pb_affine.specs.declared.lin.Lin.{Lin}
use Rattle.pb_part_areas.specs.declared.area.Area.{Area}
use Rattle.pb_part_areas.specs.Areas.{at, has, is_before}
use Rattle.pb_part_areas.proofs.Covers.{holds, has_it}

before_bools : (v w x : ℤ) → v ≤ℤ w → int_le w x ≡ true → int_le v x ≡ true
before_bools v w x le h = grind (arith, ints)

behind_bools : (v w x : ℤ) → v ≤ℤ w → int_lt x v ≡ true → int_lt x w ≡ true
behind_bools v w x le h = grind (arith, ints)

from_at_most : (f n : ℤ) → int_le f n ≡ true → f ≤ℤ n
from_at_most f n h = grind (arith, ints)

pub wider : (a : Area) (low end : Lin) → ((n : ℤ) → pos a.from ≤ℤ n → at low n ≤ℤ at a.low n) → ((n : ℤ) → is_before n a.until ≡ true → at a.end n ≤ℤ at end n) →
    (n : ℤ) (role : ℕ) (x : ℤ) → has a n role x ≡ true → has (record { role = a.role; low = low; end = end; from = a.from; until = a.until }) n role x ≡ true
wider a low end lower higher n role x h =
    let it = holds a n role x h in
    has_it (record { role = a.role; low = low; end = end; from = a.from; until = a.until }) n role x (record {
      here = it.here;
      low = before_bools (at low n) (at a.low n) x (lower n (from_at_most (pos a.from) n it.from)) it.low;
      end = behind_bools (at a.end n) (at end n) x (higher n it.until) it.end;
      from = it.from;
      until = it.until;
    })

pub widened_bools : (a b a1 b1 m : Bool) → (a ≡ true → a1 ≡ true) → (b ≡ true → b1 ≡ true) → (a1 || b1 ≡ true → m ≡ true) → a || b ≡ true → m ≡ true
widened_bools true b a1 b1 m h k s e = s (ap (λ z. z || b1) (h refl))
widened_bools false true a1 b1 m h k s e = s (or_right a1 b1 (k refl))
widened_bools false false a1 b1 m h k s e = absurd (false≢true e)
