-- How often something failed, as a count that stays at 2 ^ 64 - 1 once it is there.
use Rattle.std.specs.Prelude.{ℕ, ◌+◌, ◌-◌, ◌^◌, ◌≤◌, min, Bool, Result, OnErr, List, nat_eq}
use Rattle.std.specs.List.{list_any}

-- one more
abbrev pub next_count : ℕ → ℕ
next_count count = min (count + 1) (2 ^ 64 - 1)

-- the count went up, or stood at its end already
abbrev pub Rose : ℕ → ℕ → Type 0
Rose before now = next_count before ≤ now

-- the count didn't fall, and an error has its cause in it
pub record HasCause {T E : Type 0} (before now : ℕ) (result : Result T E) : Type 0 where
  pub later : before ≤ now
  pub failed : OnErr result (Rose before now)

-- the number stands in the list
abbrev pub is_among : ℕ → List ℕ → Bool
is_among number numbers = list_any (λ n. nat_eq n number) numbers
