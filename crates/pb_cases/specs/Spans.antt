-- The numbers that some of many spans cover.
use Rattle.std.specs.Prelude.{◌≡◌, ℕ, ◌<◌, ◌≤◌, ℤ, ◌≤ℤ◌, ◌⊎◌, List, length}
use Rattle.pb_cases.specs.Numbers.{IsAscending, nth}

-- one of the spans covers x
pub record IsCovered (lows highs : List ℤ) (x : ℤ) : Type 0 where
  pub place : ℕ
  pub within : place < length lows
  pub low : nth lows place ≤ℤ x
  pub high : x ≤ℤ nth highs place

pub record IsSpans (lows highs : List ℤ) : Type 0 where
  pub ascending : IsAscending lows
  pub same : length highs ≡ length lows

-- the spans with one more
pub record IsWithSpan (low high : ℤ) (lows highs lows' highs' : List ℤ) : Type 0 where
  pub spans : IsSpans lows' highs'
  pub kept : (x : ℤ) → IsCovered lows highs x → IsCovered lows' highs' x
  pub own : (x : ℤ) → low ≤ℤ x → x ≤ℤ high → IsCovered lows' highs' x
  pub only : (x : ℤ) → IsCovered lows' highs' x → IsCovered lows highs x ⊎ ((low ≤ℤ x) × (x ≤ℤ high))

-- each top is the greatest high end so far
pub record IsTops (highs tops : List ℤ) (done : ℕ) : Type 0 where
  pub size : length tops ≡ done
  pub over : (j k : ℕ) → j ≤ k → k < done → nth highs j ≤ℤ nth tops k
  pub among : (k : ℕ) → k < done → (j : ℕ) × (j ≤ k) × (nth tops k ≡ nth highs j)
