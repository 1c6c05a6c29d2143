-- The numbers with a mark, ascending.
use Rattle.std.specs.Prelude.{ℕ, zero, suc, ◌<◌, ◌≤◌, Bool, ◌&&◌, nat_eq, nat_lt, if◌then◌else◌, List, [], ◌∷◌, length, slice_index}

-- of n numbers from a on, those with a mark
abbrev pub kept : (ℕ → Bool) → ℕ → ℕ → List ℕ
kept f zero a = []
kept f (suc n) a = if f a then a ∷ kept f n (suc a) else kept f n (suc a)

-- the marks with another one at r
abbrev pub put : (ℕ → Bool) → ℕ → Bool → ℕ → Bool
put f r b k = if nat_eq k r then b else f k

abbrev pub IsRising : List ℕ → Type 0
IsRising xs = (i j : ℕ) → i ≤ j → j < length xs → slice_index xs i ≤ slice_index xs j

-- what stands before this place is below r, and what stands from there on isn't
pub record IsPlace (xs : List ℕ) (r at : ℕ) : Type 0 where
  pub within : at ≤ length xs
  pub below : (k : ℕ) → k < at → slice_index xs k < r
  pub above : (k : ℕ) → at ≤ k → k < length xs → r ≤ slice_index xs k

abbrev pub has : List ℕ → ℕ → ℕ → Bool
has xs at r = nat_lt at (length xs) && nat_eq (slice_index xs at) r
