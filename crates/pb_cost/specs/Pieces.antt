-- The pieces of a function of N on a range.
--
-- The function that is 1, 2, 3, 3, 3 on the numbers from 1 to 5 has the pieces `1 * N + 0` from 1 to 3 and `0 * N + 3` from 4
-- to 5.
--
-- f is the function, and p a piece.
use Rattle.std.specs.Prelude.{◌≡◌, ◌≢◌, ℕ, ℤ, pos, ◌+ℤ◌, ◌-ℤ◌, ◌*ℤ◌, ◌≤ℤ◌, ◌<ℤ◌, Option, Some, None, List, [], ◌∷◌}
use Rattle.pb_core_language.specs.Verdict.{IsUpTo}
use Rattle.pb_cost_pieces.specs.declared.stretch.Stretch.{Stretch}
use Rattle.pb_cost.specs.declared.piece.Piece.{Piece}

abbrev pub line_of : Piece → ℤ → ℤ
line_of p n = p.a *ℤ n +ℤ p.b

abbrev pub last_of : Option ℕ → Option ℤ
last_of None = None
last_of (Some high) = Some (pos high)

-- From a number on, on a range with this upper end: each piece goes as far as f is its line, and so it has two numbers at
-- least, and the slope by which f grows from the first of them to the second. The last piece goes to the end; where it has
-- one number alone, its slope is 0. So each number of the range lies in one piece.
pub data ArePieces (f : ℤ → ℤ) (high : Option ℕ) : ℤ → List Piece → Type 0 where
  final : (from : ℤ) (p : Piece) → p.from ≡ from → p.to ≡ last_of high → IsUpTo from high → ((n : ℤ) → from ≤ℤ n → IsUpTo n high → f n ≡ line_of p n) → (p.to ≡ Some from → p.a ≡ pos 0) → ArePieces f high from (p ∷ [])
  before : (from to : ℤ) (p : Piece) (rest : List Piece) → p.from ≡ from → p.to ≡ Some to → from <ℤ to → ((n : ℤ) → from ≤ℤ n → n ≤ℤ to → f n ≡ line_of p n) → f (to +ℤ pos 1) ≢ line_of p (to +ℤ pos 1) → ArePieces f high (to +ℤ pos 1) rest → ArePieces f high from (p ∷ rest)

-- a stretch as a piece that ends there
abbrev pub piece_to : Option ℤ → Stretch → Piece
piece_to to s = record { from = s.from; to = to; a = s.slope; b = s.start -ℤ s.slope *ℤ s.from }

abbrev pub end_of : Option ℕ → Stretch → List Stretch → Option ℤ
end_of high s [] = last_of high
end_of high s (t ∷ rest) = Some s.to

-- the same stretches as pieces; the last one ends where the range does
abbrev pub as_pieces : Option ℕ → List Stretch → List Piece
as_pieces high [] = []
as_pieces high (s ∷ rest) = piece_to (end_of high s rest) s ∷ as_pieces high rest
