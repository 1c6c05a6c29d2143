-- Areas that hold of something, and areas whose end is below their low end.
use Rattle.std.proofs.Common.{◌≡◌, ◌<◌, ◌+◌, ℕ, suc, ℤ, pos, negsuc, ◌+ℤ◌, ◌-ℤ◌, ◌≤ℤ◌, ◌<ℤ◌, Bool, true, false, ◌&&◌, ◌||◌, int_le, int_lt, nat_eq, refl, arith, ap, sym, subst, ◌∙◌, List, Option, Some, None, take, drop}
use Rattle.std.specs.List.{remove}
use Rattle.std.specs.Option.{IfSome}
use Rattle.std.proofs.lemmas.Int.{ints}
use Rattle.std.proofs.lemmas.Bool.Decides.{nat_tests}
use Rattle.std.proofs.lemmas.List.Elements.{All-append, All-take, All-drop}
use Rattle.pb_part_areas.specs.declared.area.Area.{Area}
use Rattle.pb_part_areas.specs.Areas.{has, at, is_before, is_param, is_when, IsSomewhere, AreSomewhere, LiesBack}
use Rattle.pb_part_areas.specs.Joins.{IsUnion}
use Rattle.pb_part_areas.proofs.Meets.{apart, at_still, at_grows}

-- ---- an N that the area speaks of

pub within_bools : (from : ℕ) (n : ℤ) (u : Bool) → pos from ≤ℤ n → u ≡ true → int_le (pos from) n && u ≡ true
within_bools from n u h e = grind (arith, ints, nat_tests)

before_at : (from b : ℕ) → from < b → int_lt (pos from) (pos b) ≡ true
before_at from b h = grind (arith, ints, nat_tests)

pub before_first : (from : ℕ) (until : Option ℕ) → IfSome until (λ b. from < b) → is_before (pos from) until ≡ true
before_first from None h = refl
before_first from (Some b) h = before_at from b h

before_last : (b : ℕ) → int_lt (pos b -ℤ pos 1) (pos b) ≡ true
before_last b = grind (arith, ints, nat_tests)

first_when : (a : Area) → IfSome a.until (λ b. a.from < b) → is_when (pos a.from) a ≡ true
first_when a h = within_bools a.from (pos a.from) (is_before (pos a.from) a.until) (omega (arith, ints)) (before_first a.from a.until h)

open_at : (from b : ℕ) (until : Option ℕ) → until ≡ Some b → IfSome until (λ e. from < e) → from < b
open_at from b until e h = subst (λ z. IfSome z (λ y. from < y)) e h

last_when : (a : Area) (b : ℕ) → a.until ≡ Some b → IfSome a.until (λ e. a.from < e) → is_when (pos b -ℤ pos 1) a ≡ true
last_when a b e h =
    let lt : a.from < b = open_at a.from b a.until e h in
    within_bools a.from (pos b -ℤ pos 1) (is_before (pos b -ℤ pos 1) a.until) (omega (arith, ints)) (ap (is_before (pos b -ℤ pos 1)) e ∙ before_last b)

-- a number from one on and above another
abbrev late : ℕ → ℤ → ℤ
late from (pos g) = pos (from + suc g)
late from (negsuc g) = pos from

late_from : (from : ℕ) (gap : ℤ) → pos from ≤ℤ late from gap
late_from from (pos g) = omega (arith, ints)
late_from from (negsuc g) = omega (arith, ints)

late_over : (from : ℕ) (gap : ℤ) → gap <ℤ late from gap
late_over from (pos g) = omega (arith, ints)
late_over from (negsuc g) = omega (arith, ints)

late_when : (a : Area) (gap : ℤ) → a.until ≡ None → is_when (late a.from gap) a ≡ true
late_when a gap e = within_bools a.from (late a.from gap) (is_before (late a.from gap) a.until) (late_from a.from gap) (ap (is_before (late a.from gap)) e)

-- ---- an index there

there_bools : (r : ℕ) (l e : ℤ) (f u : Bool) → l <ℤ e → f && u ≡ true → nat_eq r r && int_le l l && int_lt l e && f && u ≡ true
there_bools r l e f u h k = grind (arith, ints, nat_tests)

somewhere : (a : Area) (n : ℤ) → is_when n a ≡ true → at a.low n <ℤ at a.end n → IsSomewhere a
somewhere a n w h = record { n = n; role = a.role; index = at a.low n; there = there_bools a.role (at a.low n) (at a.end n) (int_le (pos a.from) n) (is_before n a.until) h w }

-- the first is above the second where their offsets are, and both grow alike
above_same : (l e p q : ℤ) → int_le e l ≡ false → p -ℤ l ≡ q -ℤ e → p <ℤ q
above_same l e p q h k = grind (arith, ints, nat_tests)

above_first : (l e p q : ℤ) (from : ℕ) → int_le (e +ℤ pos 0) (l +ℤ pos from) ≡ false → p ≡ l +ℤ pos from → q ≡ e → p <ℤ q
above_first l e p q from h hp hq = grind (arith, ints, nat_tests)

above_late : (l e p q n : ℤ) → (l -ℤ e) <ℤ n → p ≡ l → q ≡ e +ℤ n → p <ℤ q
above_late l e p q n h hp hq = omega (arith, ints)

above_last : (l e p q : ℤ) (until : ℕ) → int_le (e +ℤ pos until) (l +ℤ pos 1) ≡ false → p ≡ l → q ≡ e +ℤ (pos until -ℤ pos 1) → p <ℤ q
above_last l e p q until h hp hq = grind (arith, ints, nat_tests)

pub wide_same : (a : Area) → is_param a.low.base ≡ is_param a.end.base → int_le a.end.off a.low.off ≡ false → IfSome a.until (λ b. a.from < b) → IsSomewhere a
wide_same a e h over =
    somewhere a (pos a.from) (first_when a over) (above_same a.low.off a.end.off (at a.low (pos a.from)) (at a.end (pos a.from)) h (apart a.low a.end (pos a.from) e))

pub wide_from : (a : Area) → is_param a.low.base ≡ true → is_param a.end.base ≡ false → int_le (a.end.off +ℤ pos 0) (a.low.off +ℤ pos a.from) ≡ false → IfSome a.until (λ b. a.from < b) → IsSomewhere a
wide_from a grows still h over =
    somewhere a (pos a.from) (first_when a over)
    (above_first a.low.off a.end.off (at a.low (pos a.from)) (at a.end (pos a.from)) a.from h (at_grows a.low (pos a.from) grows) (at_still a.end (pos a.from) still))

pub wide_late : (a : Area) → is_param a.low.base ≡ false → is_param a.end.base ≡ true → a.until ≡ None → IsSomewhere a
wide_late a still grows none =
    let n = late a.from (a.low.off -ℤ a.end.off) in
    somewhere a n (late_when a (a.low.off -ℤ a.end.off) none)
    (above_late a.low.off a.end.off (at a.low n) (at a.end n) n (late_over a.from (a.low.off -ℤ a.end.off)) (at_still a.low n still) (at_grows a.end n grows))

pub wide_until : (a : Area) (until : ℕ) → is_param a.low.base ≡ false → is_param a.end.base ≡ true → a.until ≡ Some until → int_le (a.end.off +ℤ pos until) (a.low.off +ℤ pos 1) ≡ false →
    IfSome a.until (λ b. a.from < b) → IsSomewhere a
wide_until a until still grows is h over =
    let n = pos until -ℤ pos 1 in
    somewhere a n (last_when a until is over) (above_last a.low.off a.end.off (at a.low n) (at a.end n) until h (at_still a.low n still) (at_grows a.end n grows))

-- ---- an end below the low end

pub back_same : (a : Area) → is_param a.low.base ≡ is_param a.end.base → int_le a.low.off a.end.off ≡ false → IfSome a.until (λ b. a.from < b) → LiesBack a
back_same a e h over = record {
  n = pos a.from;
  when = first_when a over;
  back = above_same a.end.off a.low.off (at a.end (pos a.from)) (at a.low (pos a.from)) h (sym (apart a.low a.end (pos a.from) e));
}

pub back_from : (a : Area) → is_param a.low.base ≡ false → is_param a.end.base ≡ true → int_le (a.low.off +ℤ pos 0) (a.end.off +ℤ pos a.from) ≡ false → IfSome a.until (λ b. a.from < b) → LiesBack a
back_from a still grows h over = record {
  n = pos a.from;
  when = first_when a over;
  back = above_first a.end.off a.low.off (at a.end (pos a.from)) (at a.low (pos a.from)) a.from h (at_grows a.end (pos a.from) grows) (at_still a.low (pos a.from) still);
}

pub back_late : (a : Area) → is_param a.low.base ≡ true → is_param a.end.base ≡ false → a.until ≡ None → LiesBack a
back_late a grows still none =
    let n = late a.from (a.end.off -ℤ a.low.off) in
    record {
      n = n;
      when = late_when a (a.end.off -ℤ a.low.off) none;
      back = above_late a.end.off a.low.off (at a.end n) (at a.low n) n (late_over a.from (a.end.off -ℤ a.low.off)) (at_still a.end n still) (at_grows a.low n grows);
    }

pub back_until : (a : Area) (until : ℕ) → is_param a.low.base ≡ true → is_param a.end.base ≡ false → a.until ≡ Some until → int_le (a.low.off +ℤ pos until) (a.end.off +ℤ pos 1) ≡ false →
    IfSome a.until (λ b. a.from < b) → LiesBack a
back_until a until grows still is h over =
    let n = pos until -ℤ pos 1 in
    record {
      n = n;
      when = last_when a until is over;
      back = above_last a.end.off a.low.off (at a.end n) (at a.low n) until h (at_still a.end n still) (at_grows a.low n grows);
    }

-- ---- lists

or_first : (p q r : Bool) → r ≡ p || q → p ≡ true → r ≡ true
or_first p q r e h = grind (arith, nat_tests)

or_second : (p q r : Bool) → r ≡ p || q → q ≡ true → r ≡ true
or_second p q r e h = grind (arith, nat_tests)

pub same_somewhere : (a b : Area) → ((n : ℤ) (role : ℕ) (x : ℤ) → has b n role x ≡ has a n role x) → IsSomewhere b → IsSomewhere a
same_somewhere a b e s = record { n = s.n; role = s.role; index = s.index; there = sym (e s.n s.role s.index) ∙ s.there }

pub union_somewhere : (a b m : Area) → IsUnion a b m → IsSomewhere b → IsSomewhere m
union_somewhere a b m u s = record { n = s.n; role = s.role; index = s.index; there = or_second _ _ _ (u.is s.n s.role s.index) s.there }

pub removed_somewhere : (xs ys : List Area) (i : ℕ) → ys ≡ remove xs i → AreSomewhere xs → AreSomewhere ys
removed_somewhere xs ys i e h =
    subst AreSomewhere (sym e) (All-append IsSomewhere (take i xs) (drop (suc i) xs) (All-take IsSomewhere i xs h) (All-drop IsSomewhere (suc i) xs h))
