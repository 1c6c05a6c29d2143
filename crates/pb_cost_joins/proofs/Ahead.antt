-- Stretches that are still to be read.
use Rattle.std.proofs.Common.{◌≡◌, ◌≢◌, ℤ, pos, ◌+ℤ◌, ◌≤ℤ◌, ◌<ℤ◌, ◌⊎◌, inl, inr, List, [], ◌∷◌, sym, subst, arith}
use Rattle.std.proofs.lemmas.Int.{ints}
use Rattle.pb_cost_pieces.specs.declared.stretch.Stretch.{Stretch}
use Rattle.pb_cost_pieces.specs.Lines.{value_at, AreStretches, final, before}
use Rattle.pb_cost_joins.specs.Merging.{Ahead, over, next}

from_here : (from x s_from : ℤ) → s_from ≡ from → from ≤ℤ (x +ℤ pos 1) → s_from ≤ℤ (x +ℤ pos 1)
from_here from x s_from e h = omega (arith, ints, e, h)

to_there : (from x s_from s_to : ℤ) → s_from ≡ from → x ≤ℤ from → s_from ≤ℤ s_to → x ≤ℤ s_to
to_there from x s_from s_to e h k = omega (arith, ints, e, h, k)

on_it : (from x s_from n : ℤ) → s_from ≡ from → from ≤ℤ (x +ℤ pos 1) → x <ℤ n → s_from ≤ℤ n
on_it from x s_from n e h k = omega (arith, ints, e, h, k)

weaker : (a b : ℤ) → a <ℤ b → a ≤ℤ b
weaker a b h = omega (arith, ints, h)

le_next : (x : ℤ) → x ≤ℤ (x +ℤ pos 1)
le_next x = omega (arith, ints)

le_same : (x : ℤ) → x ≤ℤ x
le_same x = omega (arith, ints)

pub ahead_of : (f : ℤ → ℤ) (last x from : ℤ) (list : List Stretch) → x ≤ℤ from → from ≤ℤ (x +ℤ pos 1) → AreStretches f last from list → Ahead f last x list
ahead_of f last x from [] low high are = elim are [ ]
ahead_of f last x from (s ∷ []) low high (final _ _ s_from s_to is) =
    next x s [] (from_here from x s.from s_from high) (to_there from x s.from s.to s_from low is.some) (λ n gt le. is.on n (on_it from x s.from n s_from high gt) le) (over s.to s_to)
ahead_of f last x from (s ∷ rest) low high (before _ _ _ s_from is more) =
    next x s rest (from_here from x s.from s_from high) (to_there from x s.from s.to s_from low (weaker s.from s.to is.long)) (λ n gt le. is.on n (on_it from x s.from n s_from high gt) le)
    (ahead_of f last s.to (s.to +ℤ pos 1) rest (le_next s.to) (le_same (s.to +ℤ pos 1)) more)

-- the first of them
pub record Head (f : ℤ → ℤ) (last x : ℤ) (s : Stretch) (rest : List Stretch) : Type 0 where
  pub from : s.from ≤ℤ (x +ℤ pos 1)
  pub to : x ≤ℤ s.to
  pub on : (n : ℤ) → x <ℤ n → n ≤ℤ s.to → f n ≡ value_at s n
  pub behind : Ahead f last s.to rest

pub head_of : (f : ℤ → ℤ) (last x : ℤ) (s : Stretch) (rest : List Stretch) → Ahead f last x (s ∷ rest) → Head f last x s rest
head_of f last x s rest (next _ _ _ from to on behind) = record { from = from; to = to; on = on; behind = behind }

pub none_ahead : (f : ℤ → ℤ) (last x : ℤ) → Ahead f last x [] → x ≡ last
none_ahead f last x (over _ e) = e

le_at : (x y : ℤ) → x ≡ y → x ≤ℤ y
le_at x y e = omega (arith, ints, e)

le_through : (x y z : ℤ) → x ≤ℤ y → y ≤ℤ z → x ≤ℤ z
le_through x y z h k = omega (arith, ints, h, k)

pub ahead_within : (f : ℤ → ℤ) (last x : ℤ) (list : List Stretch) → Ahead f last x list → x ≤ℤ last
ahead_within f last x [] (over _ e) = le_at x last e
ahead_within f last x (s ∷ rest) (next _ _ _ from to on behind) = le_through x s.to last to (ahead_within f last s.to rest behind)

-- ---- read on, up to a number

same_or_less : (n m : ℤ) → n ≤ℤ m → (m ≡ n) ⊎ (n <ℤ m)
same_or_less n m h = grind (arith, ints)

apart : (n m : ℤ) → n <ℤ m → m ≡ n → ⊥
apart n m h e = omega (arith, ints, h, e)

later_from : (from x to : ℤ) → from ≤ℤ (x +ℤ pos 1) → x ≤ℤ to → from ≤ℤ (to +ℤ pos 1)
later_from from x to h k = omega (arith, ints, h, k)

later : (x to n : ℤ) → x ≤ℤ to → to <ℤ n → x <ℤ n
later x to n h k = omega (arith, ints, h, k)

pub read_up_to : (f : ℤ → ℤ) (last x to : ℤ) (s : Stretch) (rest others : List Stretch) → x ≤ℤ to → to ≤ℤ s.to → (s.to ≡ to → others ≡ rest) → (s.to ≢ to → others ≡ s ∷ rest) → Head f last x s rest → Ahead f last to others
read_up_to f last x to s rest others low high ended going head = elim (same_or_less to s.to high) [
  | inl e ↦ subst (λ y. Ahead f last y others) e (subst (λ xs. Ahead f last s.to xs) (sym (ended e)) head.behind)
  | inr lt ↦ subst (λ xs. Ahead f last to xs) (sym (going (apart to s.to lt))) (next to s rest (later_from s.from x to head.from low) high (λ n gt le. head.on n (later x to n low gt) le) head.behind)
]
