-- How many bytes were read, as a count that stays at 2 ^ 64 - 1 once it is there.
use Rattle.std.specs.Prelude.{◌≡◌, ℕ, ◌+◌, ◌-◌, ◌^◌, ◌≤◌, min, max, Result, MatchResult, length}
use Rattle.std.specs.declared.vec.Vec.{Vec}
use Rattle.pb_io.specs.declared.fault.InFault.{InFault}
use Rattle.pb_io.specs.declared.fault.InFault.TheVariants.{ReadFault, TooLong, NoMemory}

-- so many more
abbrev pub count_after : ℕ → ℕ → ℕ
count_after count more = max count (min (count + more) (2 ^ 64 - 1))

-- a read that gave so many bytes counts them, and one that failed counts none
abbrev pub CountsRead : {E : Type 0} → ℕ → ℕ → Result ℕ E → Type 0
CountsRead before now result = MatchResult result (λ n. now ≡ count_after before n) (λ _. now ≡ before)

-- at most so many bytes were read
abbrev pub ReadAtMost : ℕ → ℕ → ℕ → Type 0
ReadAtMost most before now = (n : ℕ) × (n ≤ most) × (now ≡ count_after before n)

-- one byte past the limit was read where the file is too long, and else none
abbrev pub StopsAt : InFault → ℕ → ℕ → ℕ → Type 0
StopsAt ReadFault limit before now = ReadAtMost limit before now
StopsAt TooLong limit before now = now ≡ count_after before (limit + 1)
StopsAt NoMemory limit before now = ReadAtMost (limit + 1) before now
