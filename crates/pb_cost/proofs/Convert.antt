-- Stretches as pieces.
use Rattle.std.proofs.Common.{◌≡◌, ℕ, ℤ, pos, ◌+ℤ◌, ◌-ℤ◌, ◌*ℤ◌, ◌≤ℤ◌, ◌<ℤ◌, int_le, Bool, true, false, Option, Some, None, List, [], ◌∷◌, length, suc, refl, sym, ap, ◌∙◌, subst, arith}
use Rattle.std.proofs.lemmas.Int.{ints}
use Rattle.pb_cost_pieces.specs.declared.stretch.Stretch.{Stretch}
use Rattle.pb_cost_pieces.specs.Lines.{value_at, AreStretches, final, before, IsClosed, IsOpen}
use Rattle.pb_cost_pieces.proofs.Lines.{along_next}
use Rattle.pb_cost_pieces.proofs.Products.{times_next}
use Rattle.pb_cost.specs.Pieces as P
use Rattle.pb_cost.specs.Pieces.{line_of, piece_to, end_of, as_pieces, ArePieces}
use Rattle.pb_cost.proofs.Rings.{line_is}

at_le : (x y z : ℤ) → x ≡ y → x ≤ℤ z → y ≤ℤ z
at_le x y z e h = omega (arith, ints, e, h)

le_at : (x y z : ℤ) → x ≤ℤ y → y ≡ z → x ≤ℤ z
le_at x y z h e = omega (arith, ints, h, e)

at_lt : (x y z : ℤ) → x ≡ y → x <ℤ z → y <ℤ z
at_lt x y z e h = omega (arith, ints, e, h)

of_some : (x y : ℤ) → Some x ≡ Some y → x ≡ y
of_some x y e = cc

none_some : {A : Type 0} (x : ℤ) → None ≡ Some x → A
none_some x e = absurd cc

none_first : (f : ℤ → ℤ) (last from : ℤ) → AreStretches f last from [] → ⊥
none_first f last from h = elim h [ ]

end_is : (f : ℤ → ℤ) (high : Option ℕ) (last from : ℤ) (s : Stretch) (rest : List Stretch) → AreStretches f last from rest → end_of high s rest ≡ Some s.to
end_is f high last from s [] h = absurd (none_first f last from h)
end_is f high last from s (t ∷ rest) h = refl

-- a stretch that ends, before other pieces
closed_before : (f : ℤ → ℤ) (high : Option ℕ) (from last : ℤ) (s : Stretch) (rest : List Stretch) → s.from ≡ from → IsClosed f s → AreStretches f last (s.to +ℤ pos 1) rest → ArePieces f high (s.to +ℤ pos 1) (as_pieces high rest) → ArePieces f high from (as_pieces high (s ∷ rest))
closed_before f high from last s rest s_from is more pieces =
    subst (λ to. ArePieces f high from (piece_to to s ∷ as_pieces high rest)) (sym (end_is f high last (s.to +ℤ pos 1) s rest more))
    (P.before from s.to (piece_to (Some s.to) s) (as_pieces high rest) s_from refl (at_lt s.from from s.to s_from is.long)
    (λ n low top. is.on n (at_le from s.from n (sym s_from) low) top ∙ line_is s (Some s.to) n)
    (λ e. is.ends (e ∙ sym (line_is s (Some s.to) (s.to +ℤ pos 1)))) pieces)

pub bounded_pieces : (f : ℤ → ℤ) (high : ℕ) (from : ℤ) (list : List Stretch) → AreStretches f (pos high) from list → ArePieces f (Some high) from (as_pieces (Some high) list)
bounded_pieces f high from [] are = absurd (none_first f (pos high) from are)
bounded_pieces f high from (s ∷ []) (final _ _ s_from s_to is) =
    P.final from (piece_to (Some (pos high)) s) s_from refl (at_le s.from from (pos high) s_from (le_at s.from s.to (pos high) is.some s_to))
    (λ n low top. is.on n (at_le from s.from n (sym s_from) low) (le_at n (pos high) s.to top (sym s_to)) ∙ line_is s (Some (pos high)) n)
    (λ e. is.single (s_from ∙ sym (of_some (pos high) from e) ∙ sym s_to))
bounded_pieces f high from (s ∷ rest) (before _ _ _ s_from is more) = closed_before f (Some high) from (pos high) s rest s_from is more (bounded_pieces f high (s.to +ℤ pos 1) rest more)

-- ---- without an upper end

-- from 820,004,100,000 on it is one line
pub record Straightens (f : ℤ → ℤ) : Type 0 where
  pub a : ℤ
  pub b : ℤ
  pub is : (n : ℤ) → pos 820004100000 ≤ℤ n → f n ≡ a *ℤ n +ℤ b

same_slope : (a b m c : ℤ) → a *ℤ pos 820004100001 +ℤ b ≡ m *ℤ pos 820004100001 +ℤ c → a *ℤ pos 820004100002 +ℤ b ≡ m *ℤ pos 820004100002 +ℤ c → a ≡ m
same_slope a b m c e f = omega (arith, ints, e, f)

same_start : (a b m c : ℤ) → a *ℤ pos 820004100001 +ℤ b ≡ m *ℤ pos 820004100001 +ℤ c → a ≡ m → b ≡ c
same_start a b m c e f = omega (arith, ints, e, f)

on_line : (fx ft fn ax aat an a b vx vt vn m : ℤ) → fx ≡ ax +ℤ b → ft ≡ aat +ℤ b → fn ≡ an +ℤ b → aat ≡ ax +ℤ a → an ≡ aat +ℤ a → vt ≡ vx +ℤ m → vn ≡ vt +ℤ m → fx ≡ vx → ft ≡ vt → fn ≡ vn
on_line fx ft fn ax aat an a b vx vt vn m e1 e2 e3 e4 e5 e6 e7 e8 e9 = omega (arith, ints, e1, e2, e3, e4, e5, e6, e7, e8, e9)

one_before : (x : ℤ) → x ≡ (x -ℤ pos 1) +ℤ pos 1
one_before x = omega (arith, ints)

before_high : (x : ℤ) → int_le x (pos 820004100000) ≡ false → pos 820004100000 ≤ℤ (x -ℤ pos 1)
before_high x h = omega (arith, ints, h)

itself_high : (x : ℤ) → int_le x (pos 820004100000) ≡ false → pos 820004100000 ≤ℤ x
itself_high x h = omega (arith, ints, h)

next_high : (x : ℤ) → int_le x (pos 820004100000) ≡ false → pos 820004100000 ≤ℤ (x +ℤ pos 1)
next_high x h = omega (arith, ints, h)

not_before : (from x : ℤ) → from <ℤ x → from ≤ℤ (x -ℤ pos 1)
not_before from x h = omega (arith, ints, h)

is_before : (x : ℤ) → (x -ℤ pos 1) ≤ℤ x
is_before x = omega (arith, ints)

le_itself : (x : ℤ) → x ≤ℤ x
le_itself x = omega (arith, ints)

lt_le : (x y : ℤ) → x <ℤ y → x ≤ℤ y
lt_le x y h = omega (arith, ints, h)

next_low : (x : ℤ) → int_le x (pos 820004100000) ≡ true → (x +ℤ pos 1) ≤ℤ pos 820004100001
next_low x h = omega (arith, ints, h)

far_high : (n : ℤ) → int_le n (pos 900000000000) ≡ false → pos 820004100000 ≤ℤ n
far_high n h = omega (arith, ints, h)

near_low : (n : ℤ) → int_le n (pos 900000000000) ≡ true → n ≤ℤ pos 900000000000
near_low n h = omega (arith, ints, h)

module _ (f : ℤ → ℤ) (straight : Straightens f) where
  -- no stretch ends where it is one line
  no_turn : (s : Stretch) → IsClosed f s → int_le s.to (pos 820004100000) ≡ false → ⊥
  no_turn s is h =
      let step : value_at s s.to ≡ value_at s (s.to -ℤ pos 1) +ℤ s.slope = ap (λ n. value_at s n) (one_before s.to) ∙ along_next s.start s.slope s.from (s.to -ℤ pos 1) in
      is.ends (on_line (f (s.to -ℤ pos 1)) (f s.to) (f (s.to +ℤ pos 1)) (straight.a *ℤ (s.to -ℤ pos 1)) (straight.a *ℤ s.to) (straight.a *ℤ (s.to +ℤ pos 1)) straight.a straight.b
      (value_at s (s.to -ℤ pos 1)) (value_at s s.to) (value_at s (s.to +ℤ pos 1)) s.slope
      (straight.is (s.to -ℤ pos 1) (before_high s.to h)) (straight.is s.to (itself_high s.to h)) (straight.is (s.to +ℤ pos 1) (next_high s.to h))
      (times_next straight.a (s.to -ℤ pos 1) s.to (one_before s.to)) (times_next straight.a s.to (s.to +ℤ pos 1) refl)
      step (along_next s.start s.slope s.from s.to)
      (is.on (s.to -ℤ pos 1) (not_before s.from s.to is.long) (is_before s.to)) (is.on s.to (lt_le s.from s.to is.long) (le_itself s.to)))

  turn_low : (s : Stretch) → IsClosed f s → (b : Bool) → int_le s.to (pos 820004100000) ≡ b → (s.to +ℤ pos 1) ≤ℤ pos 820004100001
  turn_low s is true h = next_low s.to h
  turn_low s is false h = absurd (no_turn s is h)

  -- the last stretch goes on for ever
  module _ (s : Stretch) (from : ℤ) (s_from : s.from ≡ from) (s_to : s.to ≡ pos 900000000000) (is : IsOpen f s) (low : from ≤ℤ pos 820004100001) where
    within : (n : ℤ) → from ≤ℤ n → n ≤ℤ pos 900000000000 → f n ≡ line_of (piece_to None s) n
    within n h k = is.on n (at_le from s.from n (sym s_from) h) (le_at n (pos 900000000000) s.to k (sym s_to)) ∙ line_is s None n

    later : (x y : ℤ) → x ≤ℤ pos 820004100001 → pos 820004100001 ≤ℤ y → x ≤ℤ y
    later x y h k = omega (arith, ints, h, k)

    first : straight.a *ℤ pos 820004100001 +ℤ straight.b ≡ line_of (piece_to None s) (pos 820004100001)
    first = sym (straight.is (pos 820004100001) (omega (arith, ints))) ∙ within (pos 820004100001) low (omega (arith, ints))

    second : straight.a *ℤ pos 820004100002 +ℤ straight.b ≡ line_of (piece_to None s) (pos 820004100002)
    second = sym (straight.is (pos 820004100002) (omega (arith, ints))) ∙ within (pos 820004100002) (later from (pos 820004100002) low (omega (arith, ints))) (omega (arith, ints))

    slopes : straight.a ≡ s.slope
    slopes = same_slope straight.a straight.b s.slope (piece_to None s).b first second

    beyond : (n : ℤ) → int_le n (pos 900000000000) ≡ false → f n ≡ line_of (piece_to None s) n
    beyond n h =
        straight.is n (far_high n h)
        ∙ ap (λ a. a *ℤ n +ℤ straight.b) slopes
        ∙ ap (λ b. s.slope *ℤ n +ℤ b) (same_start straight.a straight.b s.slope (piece_to None s).b first slopes)

    on_all : (n : ℤ) → from ≤ℤ n → (b : Bool) → int_le n (pos 900000000000) ≡ b → f n ≡ line_of (piece_to None s) n
    on_all n h true k = within n h (near_low n k)
    on_all n h false k = beyond n k

  pub unbounded_pieces : (from : ℤ) (list : List Stretch) → from ≤ℤ pos 820004100001 → AreStretches f (pos 900000000000) from list → ArePieces f None from (as_pieces None list)
  unbounded_pieces from [] low are = absurd (none_first f (pos 900000000000) from are)
  unbounded_pieces from (s ∷ []) low (final _ _ s_from s_to is) =
      P.final from (piece_to None s) s_from refl tt (λ n h top. on_all s from s_from s_to is low n h (int_le n (pos 900000000000)) refl) (λ e. none_some from e)
  unbounded_pieces from (s ∷ rest) low (before _ _ _ s_from is more) =
      closed_before f None from (pos 900000000000) s rest s_from is more (unbounded_pieces (s.to +ℤ pos 1) rest (turn_low s is (int_le s.to (pos 820004100000)) refl) more)

pub as_many : (high : Option ℕ) (list : List Stretch) → length (as_pieces high list) ≡ length list
as_many high [] = refl
as_many high (s ∷ rest) = ap suc (as_many high rest)
