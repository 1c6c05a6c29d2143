-- The words that the program's kernels answer.
use Rattle.std.specs.Prelude.{ℕ}
use Rattle.rand_pcg.specs.Lcg.{advance, started, increment_of}
use Rattle.rand_pcg.specs.Pcg.{multiplier_64, output_xsh_rr}

-- the state of a rank's generator before word number `count`, from 0: it is PCG-XSH-RR 64/32 with this seed and the rank as its stream
abbrev pub state_at : ℕ → ℕ → ℕ → ℕ
state_at seed rank count = (advance 64 multiplier_64 count (started 64 multiplier_64 seed (increment_of 64 rank))).state

-- the word with that number
abbrev pub word : ℕ → ℕ → ℕ → ℕ
word seed rank count = output_xsh_rr (state_at seed rank count)
