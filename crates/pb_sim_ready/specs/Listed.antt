-- What is seen of a list of ready numbers.
use Rattle.std.specs.Prelude.{◌≡◌, ℕ, Bool, false, List, length, slice_index_or}
use Rattle.pb_sim_ready.specs.Kept.{kept}

-- the numbers below a total that are listed
pub record Listed : Type 0 where
  pub total : ℕ
  pub list : List ℕ

-- what the marks say of a number
abbrev pub marked : List Bool → ℕ → Bool
marked marks k = slice_index_or marks k false

-- there is a mark for each number below the total, and the list has exactly the numbers with a mark, ascending
pub record IsListed (marks : List Bool) (x : Listed) : Type 0 where
  pub each : length marks ≡ x.total
  pub exact : x.list ≡ kept (marked marks) x.total 0

-- exactly the numbers below the total that f marks
abbrev pub Lists : Listed → (ℕ → Bool) → Type 0
Lists x f = x.list ≡ kept f x.total 0
