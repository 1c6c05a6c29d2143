-- Which word a kernel is answered, by its rank and the number of words that the rank had asked for.
use Rattle.std.specs.Prelude.{◌≡◌, ℕ, List, slice_index}

-- always the greatest one
abbrev pub IsGreatest : ℕ → ℕ → ℕ → Type 0
IsGreatest rank count word = word ≡ 4294967295

-- the one with this number in a list, and 0 past its end
abbrev pub IsListed : List ℕ → ℕ → ℕ → ℕ → Type 0
IsListed words rank count word = word ≡ slice_index words count
