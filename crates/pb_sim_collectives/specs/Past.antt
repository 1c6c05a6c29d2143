-- What one rank has entered.
use Rattle.std.specs.Prelude.{ℕ, List}

-- its words at each collective, and how many of the first ones are forgotten
pub record Past : Type 0 where
  pub all : List (List ℕ)
  pub from : ℕ
