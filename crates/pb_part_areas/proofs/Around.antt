-- An area around two others, and areas that may have something in common with one.
use Rattle.std.proofs.Common.{◌≡◌, ◌<◌, ◌≤◌, ◌+◌, ℕ, ℤ, pos, Bool, true, false, not, ◌&&◌, ◌||◌, int_le, int_lt, nat_eq, refl, arith, ap, sym, ◌∙◌, List, drop, length, get_or, drop_of_length-le}
use Rattle.std.proofs.lemmas.Int.{ints}
use Rattle.std.proofs.lemmas.Bool.{or_left, or_right}
use Rattle.std.proofs.lemmas.Bool.Decides.{nat_tests}
use Rattle.std.proofs.lemmas.List.{at_drop_more}
use Rattle.pb_part_areas.specs.declared.area.Area.{Area}
use Rattle.pb_part_areas.specs.Areas.{has, have, at, is_before}
use Rattle.pb_part_areas.specs.Joins.{blank}
use Rattle.pb_part_areas.proofs.Covers.{holds, has_it}

-- ---- around two

one_of : (p q r : Bool) → (p ≡ true → r ≡ true) → (q ≡ true → r ≡ true) → p || q ≡ true → r ≡ true
one_of true q r f g h = f refl
one_of false q r f g h = g h

-- a low end that is below the two
low_first : (l k m x : ℤ) → int_lt x m ≡ int_lt x l && int_lt x k → int_le l x ≡ true → int_le m x ≡ true
low_first l k m x e h = grind (arith, ints, nat_tests)

low_second : (l k m x : ℤ) → int_lt x m ≡ int_lt x l && int_lt x k → int_le k x ≡ true → int_le m x ≡ true
low_second l k m x e h = grind (arith, ints, nat_tests)

-- an end that is above the two
end_first : (l k m x : ℤ) → int_le m x ≡ int_le l x && int_le k x → int_lt x l ≡ true → int_lt x m ≡ true
end_first l k m x e h = grind (arith, ints, nat_tests)

end_second : (l k m x : ℤ) → int_le m x ≡ int_le l x && int_le k x → int_lt x k ≡ true → int_lt x m ≡ true
end_second l k m x e h = grind (arith, ints, nat_tests)

pub widest : (a b m : Area) → a.role ≡ b.role → m.role ≡ a.role
    → ((n x : ℤ) → int_lt x (at m.low n) ≡ int_lt x (at a.low n) && int_lt x (at b.low n)) → ((n x : ℤ) → int_le (at m.end n) x ≡ int_le (at a.end n) x && int_le (at b.end n) x)
    → ((n : ℤ) → int_le (pos m.from) n ≡ int_le (pos a.from) n || int_le (pos b.from) n) → ((n : ℤ) → is_before n m.until ≡ is_before n a.until || is_before n b.until)
    → (n : ℤ) (role : ℕ) (x : ℤ) → has a n role x || has b n role x ≡ true → has m n role x ≡ true
widest a b m same here low end from until n role x =
    one_of (has a n role x) (has b n role x) (has m n role x)
    (λ h. let k = holds a n role x h in has_it m n role x (record {
      here = ap (nat_eq role) here ∙ k.here;
      low = low_first (at a.low n) (at b.low n) (at m.low n) x (low n x) k.low;
      end = end_first (at a.end n) (at b.end n) (at m.end n) x (end n x) k.end;
      from = from n ∙ or_left (int_le (pos a.from) n) (int_le (pos b.from) n) k.from;
      until = until n ∙ or_left (is_before n a.until) (is_before n b.until) k.until;
    }))
    (λ h. let k = holds b n role x h in has_it m n role x (record {
      here = ap (nat_eq role) (here ∙ same) ∙ k.here;
      low = low_second (at a.low n) (at b.low n) (at m.low n) x (low n x) k.low;
      end = end_second (at a.end n) (at b.end n) (at m.end n) x (end n x) k.end;
      from = from n ∙ or_right (int_le (pos a.from) n) (int_le (pos b.from) n) k.from;
      until = until n ∙ or_right (is_before n a.until) (is_before n b.until) k.until;
    }))

-- ---- near one

passed_bools : (o a t : Bool) → a && not t ≡ a → o && t ≡ (o || a) && t
passed_bools o a t h = grind (arith, nat_tests)

pub passed : (xs : List Area) (a to : Area) → ((n : ℤ) (role : ℕ) (x : ℤ) → has a n role x && not (has to n role x) ≡ has a n role x)
    → (n : ℤ) (role : ℕ) (x : ℤ) → have xs n role x && has to n role x ≡ (have xs n role x || has a n role x) && has to n role x
passed xs a to h n role x = passed_bools (have xs n role x) (has a n role x) (has to n role x) (h n role x)

near_bools : (o o2 a d t l : Bool) → o2 && t ≡ (o || a) && t → (o || (a || d)) && t ≡ l → (o2 || d) && t ≡ l
near_bools o o2 a d t l e h = grind (arith, nat_tests)

pub near_step : (xs : List Area) (i : ℕ) (o o2 t l : Bool) (n : ℤ) (role : ℕ) (x : ℤ) → i < length xs → o2 && t ≡ (o || has (get_or xs i blank) n role x) && t
    → (o || have (drop i xs) n role x) && t ≡ l → (o2 || have (drop (i + 1) xs) n role x) && t ≡ l
near_step xs i o o2 t l n role x lt e h =
    near_bools o o2 (has (get_or xs i blank) n role x) _ t l e (ap (λ z. (o || z) && t) (sym (at_drop_more (λ z. have z n role x) xs i blank lt)) ∙ h)

end_bools : (o t l : Bool) → (o || false) && t ≡ l → o && t ≡ l
end_bools true t l h = h
end_bools false t l h = h

pub near_end : (xs : List Area) (i : ℕ) (o t l : Bool) (n : ℤ) (role : ℕ) (x : ℤ) → length xs ≤ i → (o || have (drop i xs) n role x) && t ≡ l → o && t ≡ l
near_end xs i o t l n role x le h = end_bools o t l (sym (ap (λ z. (o || have z n role x) && t) (drop_of_length-le xs le)) ∙ h)
