-- Areas for the numbers N of a list alone.
use Rattle.std.proofs.Common.{◌≡◌, ◌<◌, ◌≤◌, ◌+◌, ℕ, ℤ, pos, Bool, true, false, ◌&&◌, ◌||◌, int_le, ap, sym, ◌∙◌, refl, List, drop, length, get_or, drop_of_length-le}
use Rattle.std.proofs.lemmas.List.{at_drop_more}
use Rattle.pb_part_areas.specs.declared.area.Area.{Area}
use Rattle.pb_part_areas.specs.Areas.{has, have, is_before}
use Rattle.pb_part_areas.specs.Joins.{blank}
use Rattle.pb_part_areas.proofs.Covers.{holds}

-- p is a test of the numbers so far, f that of the next area's, h whether the next area holds, and d whether one behind it does
clip_bools : (p p2 f h d : Bool) → p2 ≡ p || f → (h ≡ true → f ≡ true) → p || (h || d) ≡ true → p2 || d ≡ true
clip_bools true p2 f h d e k j = ap (λ z. z || d) e
clip_bools false p2 f true d e k j = ap (λ z. z || d) (e ∙ k refl)
clip_bools false p2 true false d e k j = ap (λ z. z || d) e
clip_bools false p2 false false d e k j = ap (λ z. z || d) e ∙ j

pub clip_step : (xs : List Area) (i : ℕ) (p p2 f : Bool) (n : ℤ) (role : ℕ) (x : ℤ) → i < length xs → p2 ≡ p || f → (has (get_or xs i blank) n role x ≡ true → f ≡ true)
    → p || have (drop i xs) n role x ≡ true → p2 || have (drop (i + 1) xs) n role x ≡ true
clip_step xs i p p2 f n role x lt e k h =
    clip_bools p p2 f (has (get_or xs i blank) n role x) (have (drop (i + 1) xs) n role x) e k (ap (λ z. p || z) (sym (at_drop_more (λ z. have z n role x) xs i blank lt)) ∙ h)

end_bools : (p : Bool) → p || false ≡ true → p ≡ true
end_bools true h = refl
end_bools false h = h

pub clip_end : (xs : List Area) (i : ℕ) (p : Bool) (n : ℤ) (role : ℕ) (x : ℤ) → length xs ≤ i → p || have (drop i xs) n role x ≡ true → p ≡ true
clip_end xs i p n role x le h = end_bools p (sym (ap (λ z. p || have z n role x) (drop_of_length-le xs le)) ∙ h)

start_bools : (p h : Bool) → h ≡ true → p || h ≡ true
start_bools true h e = refl
start_bools false h e = e

pub clip_start : (p h : Bool) → h ≡ true → p || h ≡ true
clip_start p h e = start_bools p h e

pub from_of : (a : Area) (n : ℤ) (role : ℕ) (x : ℤ) → has a n role x ≡ true → int_le (pos a.from) n ≡ true
from_of a n role x h = (holds a n role x h).from

pub until_of : (a : Area) (n : ℤ) (role : ℕ) (x : ℤ) → has a n role x ≡ true → is_before n a.until ≡ true
until_of a n role x h = (holds a n role x h).until

and_true : (h p : Bool) → p ≡ true → h && p ≡ h
and_true true p e = e
and_true false p e = refl

-- an area that is cut twice by what is true is the same
pub both_true : (h s r p q : Bool) → s ≡ h && p → r ≡ s && q → p ≡ true → q ≡ true → r ≡ h
both_true h s r p q e f k j = f ∙ and_true s q j ∙ e ∙ and_true h p k
