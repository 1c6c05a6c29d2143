-- Lists of areas that are put in order and joined.
use Rattle.std.proofs.Common.{◌≡◌, ◌<◌, ℕ, ℤ, pos, ◌≤ℤ◌, Bool, true, false, ◌&&◌, ◌||◌, int_le, int_lt, nat_eq, refl, arith, ap, sym, subst, ◌∙◌, List, [], ◌∷◌, ◌++◌, length, get_or, ◌+◌, drop, Option, Some}
use Rattle.std.specs.List.{All, list_any}
use Rattle.std.specs.List.Sorted.{IsPermutation}
use Rattle.std.specs.Option.{IfSome, option_to_list}
use Rattle.std.proofs.lemmas.Int.{ints}
use Rattle.std.proofs.lemmas.List.{at_drop_more}
use Rattle.std.proofs.lemmas.Bool.Decides.{nat_tests}
use Rattle.std.proofs.lemmas.List.Elements.{All-pop}
use Rattle.std.proofs.lemmas.List.Sorted.{list_any-IsPermutation}
use Rattle.pb_part_areas.specs.declared.area.Area.{Area}
use Rattle.pb_part_areas.specs.Areas.{has, have, at, is_before, is_when}
use Rattle.pb_part_areas.specs.Joins.{blank, IsUnion}
use Rattle.pb_part_areas.proofs.Bools.{or_assoc}
use Rattle.pb_part_areas.proofs.Covers.{have_at}
use Rattle.pb_part_areas.proofs.Joins.{exchanged}
use Rattle.pb_part_areas.proofs.Lists.{have_pushed}

-- ---- two areas as one

linked_bools : (p f u : Bool) (x l m e g : ℤ) → (f && u ≡ true → l ≤ℤ m) → (f && u ≡ true → m ≤ℤ e) → (f && u ≡ true → e ≤ℤ g) →
    p && int_le l x && int_lt x g && f && u ≡ (p && int_le l x && int_lt x e && f && u) || (p && int_le m x && int_lt x g && f && u)
linked_bools p f u x l m e g low middle end = grind (arith, ints, nat_tests)

-- the same with the second's tests apart
linked_of : (p p2 f f2 u u2 : Bool) (x l m e g : ℤ) → p ≡ p2 → f ≡ f2 → u ≡ u2 → (f && u ≡ true → l ≤ℤ m) → (f && u ≡ true → m ≤ℤ e) → (f && u ≡ true → e ≤ℤ g) →
    p && int_le l x && int_lt x g && f && u ≡ (p && int_le l x && int_lt x e && f && u) || (p2 && int_le m x && int_lt x g && f2 && u2)
linked_of p p2 f f2 u u2 x l m e g ep ef eu low middle end =
    let second : p2 && int_le m x && int_lt x g && f2 && u2 ≡ p && int_le m x && int_lt x g && f && u = cc in
    linked_bools p f u x l m e g low middle end ∙ ap (λ z. (p && int_le l x && int_lt x e && f && u) || z) (sym second)

-- the second begins within the first or at its end, and doesn't end before it
pub linked : (a b : Area) → a.role ≡ b.role → a.from ≡ b.from → a.until ≡ b.until
    → ((n : ℤ) → is_when n a ≡ true → is_when n a ≡ true → at a.low n ≤ℤ at b.low n)
    → ((n : ℤ) → is_when n a ≡ true → is_when n a ≡ true → at b.low n ≤ℤ at a.end n)
    → ((n : ℤ) → is_when n a ≡ true → is_when n a ≡ true → at a.end n ≤ℤ at b.end n)
    → IsUnion a b (record a { end = b.end })
linked a b er ef eu low middle end = record {
  is = λ n role x. linked_of (nat_eq role a.role) (nat_eq role b.role) (int_le (pos a.from) n) (int_le (pos b.from) n) (is_before n a.until) (is_before n b.until)
      x (at a.low n) (at b.low n) (at a.end n) (at b.end n)
      (ap (nat_eq role) er) (ap (λ z. int_le (pos z) n) ef) (ap (is_before n) eu) (λ w. low n w w) (λ w. middle n w w) (λ w. end n w w);
  fits = λ range cuts fa fb. record { low = fa.low; end = fb.end; from = fa.from; until = fa.until };
}

within_bools : (a b : Bool) → (b ≡ true → a ≡ true) → a ≡ a || b
within_bools true b h = refl
within_bools false true h = h refl
within_bools false false h = refl

pub first_covers : (a b : Area) → ((n : ℤ) (role : ℕ) (x : ℤ) → has b n role x ≡ true → has a n role x ≡ true) → IsUnion a b a
first_covers a b h = record {
  is = λ n role x. within_bools (has a n role x) (has b n role x) (h n role x);
  fits = λ range cuts fa fb. fa;
}

pub second_covers : (a b : Area) → ((n : ℤ) (role : ℕ) (x : ℤ) → has a n role x ≡ true → has b n role x ≡ true) → IsUnion a b b
second_covers a b h = exchanged a b b (first_covers b a h)

-- ---- the last area of a list

-- two areas, one after the other
pub added_twice : (o p q a b : Bool) → p ≡ o || a → q ≡ p || b → q ≡ o || (a || b)
added_twice o p q a b e h = h ∙ ap (λ z. z || b) e ∙ sym (or_assoc o a b)

pub popped : (xs ys : List Area) (r : Option Area) (last : Area) → xs ≡ ys ++ option_to_list r → r ≡ Some last → (n : ℤ) (role : ℕ) (x : ℤ) → have xs n role x ≡ have ys n role x || has last n role x
popped xs ys r last e is n role x = have_pushed ys xs last (e ∙ ap (λ z. ys ++ option_to_list z) is) n role x

-- the last area is put back with one more
pub put_back : (xs ys : List Area) (r : Option Area) (last : Area) (o a : Bool) (n : ℤ) (role : ℕ) (x : ℤ) → xs ≡ ys ++ option_to_list r → r ≡ Some last
    → o ≡ have ys n role x || (has last n role x || a) → o ≡ have xs n role x || a
put_back xs ys r last o a n role x e is h =
    h ∙ or_assoc (have ys n role x) (has last n role x) a ∙ ap (λ z. z || a) (sym (popped xs ys r last e is n role x))

pub All-left : (P : Area → Type 0) (xs ys : List Area) (r : Option Area) → xs ≡ ys ++ option_to_list r → All P xs → All P ys
All-left P xs ys r e h = (All-pop P xs ys r e h).0

pub of_last : (P : Area → Type 0) (xs ys : List Area) (r : Option Area) (last : Area) → xs ≡ ys ++ option_to_list r → r ≡ Some last → All P xs → P last
of_last P xs ys r last e is h = subst (λ z. IfSome z P) is ((All-pop P xs ys r e h).1)

-- ---- a list in another order

have_any : (xs : List Area) (n : ℤ) (role : ℕ) (x : ℤ) → have xs n role x ≡ list_any (λ a. has a n role x) xs
have_any [] n role x = refl
have_any (a ∷ xs) n role x = ap (λ z. has a n role x || z) (have_any xs n role x)

pub reordered : (xs ys : List Area) → IsPermutation xs ys → (n : ℤ) (role : ℕ) (x : ℤ) → have ys n role x ≡ have xs n role x
reordered xs ys h n role x = have_any ys n role x ∙ sym (list_any-IsPermutation (λ a. has a n role x) xs ys h) ∙ sym (have_any xs n role x)

-- ---- some of a list first, and then what is beside them

added_within : (o p a l : Bool) → (p ≡ true → o || a ≡ true) → (o ≡ true → l ≡ true) → (a ≡ true → l ≡ true) → p ≡ true → l ≡ true
added_within true p a l e h k t = h refl
added_within false p a l e h k t = k (e t)

pub within_step : (xs : List Area) (i : ℕ) (o p : Bool) (n : ℤ) (role : ℕ) (x : ℤ) → i < length xs → (p ≡ true → o || has (get_or xs i blank) n role x ≡ true)
    → (o ≡ true → have xs n role x ≡ true) → p ≡ true → have xs n role x ≡ true
within_step xs i o p n role x lt e h = added_within o p (has (get_or xs i blank) n role x) (have xs n role x) e h (have_at xs i n role x lt)

pub spread_start : (o w l : Bool) → o ≡ w → (o || l) || w ≡ l || w
spread_start o true l e = grind (arith, nat_tests)
spread_start o false l e = grind (arith, nat_tests)

pub spread_end : (o w l : Bool) → o || w ≡ l || w → (w ≡ true → o ≡ true) → (w ≡ true → l ≡ true) → o ≡ l
spread_end o true l e h k = h refl ∙ sym (k refl)
spread_end true false l e h k = grind (arith, nat_tests)
spread_end false false l e h k = grind (arith, nat_tests)

-- ---- areas within others

either_bools : (p q o : Bool) → (p ≡ true → o ≡ true) → (q ≡ true → o ≡ true) → p || q ≡ true → o ≡ true
either_bools true q o h k e = h refl
either_bools false q o h k e = k e

pub within_drop : (xs : List Area) (i : ℕ) (n : ℤ) (role : ℕ) (x : ℤ) (o : Bool) → i < length xs → (has (get_or xs i blank) n role x ≡ true → o ≡ true)
    → (have (drop (i + 1) xs) n role x ≡ true → o ≡ true) → have (drop i xs) n role x ≡ true → o ≡ true
within_drop xs i n role x o lt h k e =
    either_bools (has (get_or xs i blank) n role x) (have (drop (i + 1) xs) n role x) o h k (sym (at_drop_more (λ z. have z n role x) xs i blank lt) ∙ e)
