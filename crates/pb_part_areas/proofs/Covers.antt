-- Areas within others, and areas with nothing in common.
use Rattle.std.proofs.Common.{◌≡◌, ◌≤◌, ℕ, ℤ, pos, ◌≤ℤ◌, Bool, true, false, not, ◌&&◌, ◌||◌, int_le, int_lt, nat_eq, refl, arith, ap, sym, ◌∙◌, List, [], ◌∷◌, ◌<◌, ◌+◌, drop, drop_of_length-le, length, get_or, zero, suc}
use Rattle.std.proofs.lemmas.Int.{ints}
use Rattle.std.proofs.lemmas.Bool.{and_parts, and_from, eqb-true, or_left, or_right}
use Rattle.std.proofs.lemmas.Bool.Decides.{nat_tests}
use Rattle.std.proofs.lemmas.List.{at_drop_more}
use Rattle.pb_part_areas.specs.declared.area.Area.{Area}
use Rattle.pb_part_areas.specs.Areas.{has, have, at, is_before, is_when}
use Rattle.pb_part_areas.specs.Joins.{blank}

-- ---- what an area that holds says

pub record Holds (a : Area) (n : ℤ) (role : ℕ) (x : ℤ) : Type 0 where
  pub here : nat_eq role a.role ≡ true
  pub low : int_le (at a.low n) x ≡ true
  pub end : int_lt x (at a.end n) ≡ true
  pub from : int_le (pos a.from) n ≡ true
  pub until : is_before n a.until ≡ true

pub holds : (a : Area) (n : ℤ) (role : ℕ) (x : ℤ) → has a n role x ≡ true → Holds a n role x
holds a n role x h =
    let p = and_parts (nat_eq role a.role && int_le (at a.low n) x && int_lt x (at a.end n) && int_le (pos a.from) n) (is_before n a.until) h in
    let q = and_parts (nat_eq role a.role && int_le (at a.low n) x && int_lt x (at a.end n)) (int_le (pos a.from) n) p.0 in
    let r = and_parts (nat_eq role a.role && int_le (at a.low n) x) (int_lt x (at a.end n)) q.0 in
    let s = and_parts (nat_eq role a.role) (int_le (at a.low n) x) r.0 in
    record { here = s.0; low = s.1; end = r.1; from = q.1; until = p.1 }

pub has_it : (a : Area) (n : ℤ) (role : ℕ) (x : ℤ) → Holds a n role x → has a n role x ≡ true
has_it a n role x h =
    and_from _ (is_before n a.until) (and_from _ (int_le (pos a.from) n) (and_from _ (int_lt x (at a.end n)) (and_from (nat_eq role a.role) (int_le (at a.low n) x) h.here h.low) h.end) h.from) h.until

when : (a : Area) (n : ℤ) (role : ℕ) (x : ℤ) → Holds a n role x → is_when n a ≡ true
when a n role x h = and_from (int_le (pos a.from) n) (is_before n a.until) h.from h.until

below_low : (l m x : ℤ) → m ≤ℤ l → int_le l x ≡ true → int_le m x ≡ true
below_low l m x h k = grind (arith, ints)

above_end : (e f x : ℤ) → e ≤ℤ f → int_lt x e ≡ true → int_lt x f ≡ true
above_end e f x h k = grind (arith, ints)

from_earlier : (f g : ℕ) (n : ℤ) → g ≤ f → int_le (pos f) n ≡ true → int_le (pos g) n ≡ true
from_earlier f g n h k = grind (arith, ints)

-- ---- one within another

pub cover : (a b : Area) → a.role ≡ b.role → b.from ≤ a.from → ((n : ℤ) → is_before n a.until ≡ true → is_before n b.until ≡ true)
    → ((n : ℤ) → is_when n a ≡ true → is_when n a ≡ true → at b.low n ≤ℤ at a.low n) → ((n : ℤ) → is_when n a ≡ true → is_when n a ≡ true → at a.end n ≤ℤ at b.end n)
    → (n : ℤ) (role : ℕ) (x : ℤ) → has a n role x ≡ true → has b n role x ≡ true
cover a b same from until low end n role x h =
    let k = holds a n role x h in
    let w = when a n role x k in
    has_it b n role x (record {
      here = ap (nat_eq role) (sym same) ∙ k.here;
      low = below_low (at a.low n) (at b.low n) x (low n w w) k.low;
      end = above_end (at a.end n) (at b.end n) x (end n w w) k.end;
      from = from_earlier a.from b.from n from k.from;
      until = until n k.until;
    })

-- ---- nothing in common

both_false : (a b : Bool) → (a ≡ true → b ≡ true → ⊥) → a && not b ≡ a
both_false true true h = absurd (h refl refl)
both_false true false h = refl
both_false false b h = refl

not_between : (e l x : ℤ) → e ≤ℤ l → int_lt x e ≡ true → int_le l x ≡ true → ⊥
not_between e l x h j k = grind (arith, ints)

pub apart_first : (a b : Area) → ((n : ℤ) → is_when n a ≡ true → is_when n b ≡ true → at a.end n ≤ℤ at b.low n) → (n : ℤ) (role : ℕ) (x : ℤ) → has a n role x && not (has b n role x) ≡ has a n role x
apart_first a b h n role x = both_false (has a n role x) (has b n role x) (λ j k.
    let p = holds a n role x j in
    let q = holds b n role x k in
    not_between (at a.end n) (at b.low n) x (h n (when a n role x p) (when b n role x q)) p.end q.low)

pub apart_second : (a b : Area) → ((n : ℤ) → is_when n a ≡ true → is_when n b ≡ true → at b.end n ≤ℤ at a.low n) → (n : ℤ) (role : ℕ) (x : ℤ) → has a n role x && not (has b n role x) ≡ has a n role x
apart_second a b h n role x = both_false (has a n role x) (has b n role x) (λ j k.
    let p = holds a n role x j in
    let q = holds b n role x k in
    not_between (at b.end n) (at a.low n) x (h n (when a n role x p) (when b n role x q)) q.end p.low)

before_it : (f : ℕ) (n : ℤ) → int_lt n (pos f) ≡ true → int_le (pos f) n ≡ true → ⊥
before_it f n h k = grind (arith, ints)

-- the numbers N of the one end before those of the other begin
pub over_first : (a b : Area) → ((n : ℤ) → is_before n a.until ≡ true → int_lt n (pos b.from) ≡ true) → (n : ℤ) (role : ℕ) (x : ℤ) → has a n role x && not (has b n role x) ≡ has a n role x
over_first a b h n role x = both_false (has a n role x) (has b n role x) (λ j k. before_it b.from n (h n (holds a n role x j).until) (holds b n role x k).from)

pub over_second : (a b : Area) → ((n : ℤ) → is_before n b.until ≡ true → int_lt n (pos a.from) ≡ true) → (n : ℤ) (role : ℕ) (x : ℤ) → has a n role x && not (has b n role x) ≡ has a n role x
over_second a b h n role x = both_false (has a n role x) (has b n role x) (λ j k. before_it a.from n (h n (holds b n role x k).until) (holds a n role x j).from)

pub apart_roles : (a b : Area) → (a.role ≡ b.role → ⊥) → (n : ℤ) (role : ℕ) (x : ℤ) → has a n role x && not (has b n role x) ≡ has a n role x
apart_roles a b h n role x = both_false (has a n role x) (has b n role x) (λ j k.
    h (sym (eqb-true role a.role (holds a n role x j).here) ∙ eqb-true role b.role (holds b n role x k).here))

or_true : (a : Bool) → a || true ≡ true
or_true true = refl
or_true false = refl

common_bools : (o a b : Bool) → a && not b ≡ a → o ≡ o || (a && b)
common_bools true a b h = refl
common_bools false true true h = h
common_bools false true false h = refl
common_bools false false b h = refl

pub nothing_common : (a b : Area) (list : List Area) → ((n : ℤ) (role : ℕ) (x : ℤ) → has a n role x && not (has b n role x) ≡ has a n role x)
    → (n : ℤ) (role : ℕ) (x : ℤ) → have list n role x ≡ have list n role x || (has a n role x && has b n role x)
nothing_common a b list h n role x = common_bools (have list n role x) (has a n role x) (has b n role x) (h n role x)

-- ---- lists

pub have_at : (xs : List Area) (i : ℕ) (n : ℤ) (role : ℕ) (x : ℤ) → i < length xs → has (get_or xs i blank) n role x ≡ true → have xs n role x ≡ true
have_at [] i n role x lt h = absurd (omega (arith, lt))
have_at (a ∷ xs) zero n role x lt h = or_left (has a n role x) (have xs n role x) h
have_at (a ∷ xs) (suc i) n role x lt h = or_right (has a n role x) (have xs n role x) (have_at xs i n role x (omega (arith, lt)) h)

apart_bools : (a d b : Bool) → a && not b ≡ a → d && not b ≡ d → (a || d) && not b ≡ (a || d)
apart_bools a d b h k = grind (arith, nat_tests)

-- where an area of the list, and what stands behind it, have nothing in common with b
pub apart_step : (xs : List Area) (i : ℕ) (b : Bool) (n : ℤ) (role : ℕ) (x : ℤ) → i < length xs → has (get_or xs i blank) n role x && not b ≡ has (get_or xs i blank) n role x
    → have (drop (i + 1) xs) n role x && not b ≡ have (drop (i + 1) xs) n role x → have (drop i xs) n role x && not b ≡ have (drop i xs) n role x
apart_step xs i b n role x lt h k =
    let e = at_drop_more (λ z. have z n role x) xs i blank lt in
    ap (λ z. z && not b) e ∙ apart_bools (has (get_or xs i blank) n role x) (have (drop (i + 1) xs) n role x) b h k ∙ sym e

-- what is kept beside an area
beside_bools : (o b a : Bool) → (b ≡ true → a ≡ true) → o || a ≡ (o || b) || a
beside_bools true b a h = refl
beside_bools false true true h = refl
beside_bools false true false h = absurd (cc (h refl))
beside_bools false false a h = refl

pub beside : (xs : List Area) (b a : Area) → ((n : ℤ) (role : ℕ) (x : ℤ) → has b n role x ≡ true → has a n role x ≡ true) → (n : ℤ) (role : ℕ) (x : ℤ) → have xs n role x || has a n role x ≡ (have xs n role x || has b n role x) || has a n role x
beside xs b a h n role x = beside_bools (have xs n role x) (has b n role x) (has a n role x) (h n role x)

kept_bools : (o o2 b d a l : Bool) → o2 || a ≡ (o || b) || a → (o || (b || d)) || a ≡ l → (o2 || d) || a ≡ l
kept_bools o o2 b d a l h k = grind (arith, nat_tests)

pub kept_step : (xs : List Area) (i : ℕ) (o o2 a l : Bool) (n : ℤ) (role : ℕ) (x : ℤ) → i < length xs → o2 || a ≡ (o || has (get_or xs i blank) n role x) || a
    → (o || have (drop i xs) n role x) || a ≡ l → (o2 || have (drop (i + 1) xs) n role x) || a ≡ l
kept_step xs i o o2 a l n role x lt h k =
    kept_bools o o2 (has (get_or xs i blank) n role x) (have (drop (i + 1) xs) n role x) a l h (ap (λ z. (o || z) || a) (sym (at_drop_more (λ z. have z n role x) xs i blank lt)) ∙ k)

covered_bools : (o a : Bool) → (a ≡ true → o ≡ true) → o ≡ o || a
covered_bools true a h = refl
covered_bools false true h = absurd (cc (h refl))
covered_bools false false h = refl

pub covered : (xs : List Area) (a : Area) → ((n : ℤ) (role : ℕ) (x : ℤ) → has a n role x ≡ true → have xs n role x ≡ true) → (n : ℤ) (role : ℕ) (x : ℤ) → have xs n role x ≡ have xs n role x || has a n role x
covered xs a h n role x = covered_bools (have xs n role x) (has a n role x) (h n role x)

pub apart_end : (xs : List Area) (i : ℕ) (b : Bool) (n : ℤ) (role : ℕ) (x : ℤ) → length xs ≤ i → have (drop i xs) n role x && not b ≡ have (drop i xs) n role x
apart_end xs i b n role x le = let e = ap (λ z. have z n role x) (drop_of_length-le xs le) in ap (λ z. z && not b) e ∙ sym e

kept_end_bools : (o a l : Bool) → (o || false) || a ≡ l → o || a ≡ l
kept_end_bools true a l h = h
kept_end_bools false a l h = h

pub kept_end : (xs : List Area) (i : ℕ) (o a l : Bool) (n : ℤ) (role : ℕ) (x : ℤ) → length xs ≤ i → (o || have (drop i xs) n role x) || a ≡ l → o || a ≡ l
kept_end xs i o a l n role x le h = kept_end_bools o a l (sym (ap (λ z. (o || have z n role x) || a) (drop_of_length-le xs le)) ∙ h)

-- the list without those within an area, and what the area adds to it
pub with_missing : (k l a v o : Bool) → k || a ≡ l || a → v || k ≡ a || k → o ≡ k || v → o ≡ l || a
with_missing k l a v o e f g = grind (arith, nat_tests)

missing_bools : (o o2 b l a : Bool) → o2 ≡ o && not b → (b ≡ true → l ≡ true) → o || l ≡ a || l → o2 || l ≡ a || l
missing_bools o o2 true l a e h k = let t = h refl in (ap (λ z. o2 || z) t ∙ or_true o2) ∙ sym (ap (λ z. a || z) t ∙ or_true a)
missing_bools true o2 false l a e h k = ap (λ z. z || l) e ∙ k
missing_bools false o2 false l a e h k = ap (λ z. z || l) e ∙ k

-- what is left of an area, without one more of the list
pub missing_step : (xs : List Area) (i : ℕ) (o o2 a : Bool) (n : ℤ) (role : ℕ) (x : ℤ) → i < length xs → o2 ≡ o && not (has (get_or xs i blank) n role x)
    → o || have xs n role x ≡ a || have xs n role x → o2 || have xs n role x ≡ a || have xs n role x
missing_step xs i o o2 a n role x lt e h = missing_bools o o2 (has (get_or xs i blank) n role x) (have xs n role x) a e (have_at xs i n role x lt) h
