-- How large the numbers are from which ranks are counted.
use Rattle.std.specs.Prelude.{◌^◌, ℤ, pos, negsuc, ◌≤ℤ◌}

pub record IsModest (n : ℤ) : Type 0 where
  pub low : pos 0 ≤ℤ n
  pub high : n ≤ℤ pos (2 ^ 32)

pub record IsWide (x : ℤ) : Type 0 where
  pub low : negsuc (2 ^ 33) ≤ℤ x
  pub high : x ≤ℤ pos (2 ^ 33)
