-- Whether a part has a continue of one of the loops around it.
use Rattle.std.specs.Prelude.{◌≡◌, ◌+◌, ℕ, Bool, List, length}

-- With `outer` ids from that loop's on, the answer is that for the number of those inside it.
pub record Rounds (outer : ℕ) (opens : List ℕ) (t : Bool) (test : ℕ → Bool) : Type 0 where
  pub is : (k : ℕ) → k + outer ≡ length opens → t ≡ test k
