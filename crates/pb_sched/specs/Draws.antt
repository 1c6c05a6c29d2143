-- The words of the generator of picks, two for each turn.
use Rattle.std.specs.Prelude.{ℕ, ◌+◌, ◌*◌, ◌^◌, ◌%◌, List, length, slice_index, nat_eq, if◌then◌else◌}
use Rattle.rand_pcg.specs.Lcg.{Lcg, advance, started, increment_of}
use Rattle.rand_pcg.specs.Pcg.{multiplier_64, output_xsh_rr}
use Rattle.pb_text.specs.declared.mode.Mode.{Mode}
use Rattle.pb_text.specs.declared.mode.Mode.TheVariants.{Eager, Waiting}

-- the generator with this seed and stream 2^32, once n words were taken
abbrev pub generator : ℕ → ℕ → Lcg
generator seed n = advance 64 multiplier_64 n (started 64 multiplier_64 seed (increment_of 64 (2 ^ 32)))

-- its word number n, counted from 0
abbrev pub word : ℕ → ℕ → ℕ
word seed n = output_xsh_rr (generator seed n).state

-- the word, modulo the length, is the position taken
abbrev pub taken_by : ℕ → List ℕ → ℕ
taken_by w ready = slice_index ready (w % length ready)

abbrev pub pick : ℕ → ℕ → List ℕ → ℕ
pick seed turn ready = taken_by (word seed (2 * turn)) ready

-- Waiting exactly where the word is odd
abbrev pub mode_by : ℕ → Mode
mode_by w = if nat_eq (w % 2) 1 then Waiting else Eager

abbrev pub pick_mode : ℕ → ℕ → Mode
pick_mode seed turn = mode_by (word seed (2 * turn + 1))

-- the draws of a seed from an event on
pub record Drawing : Type 0 where
  pub seed : ℕ
  pub turn : ℕ
