-- A generator that has given a word is at the place of the next one.
use Rattle.std.proofs.Common.{◌≡◌, ℕ, zero, suc, ◌+◌, refl, add-one}
use Rattle.rand_pcg.specs.Lcg.{next_state, state_after, started, increment_of}
use Rattle.rand_pcg.specs.Pcg.{multiplier_64}
use Rattle.pb_cli_answers.specs.Words.{state_at}

-- n steps after one step are one step after n steps
after_step : (w m p n s : ℕ) → state_after w m p n (next_state w m p s) ≡ next_state w m p (state_after w m p n s)
unfolding state_after
after_step w m p zero s = refl
after_step w m p (suc n) s = after_step w m p n (next_state w m p s)

pub one_on : (seed rank count : ℕ) → state_at seed rank (count + 1) ≡ next_state 64 multiplier_64 (increment_of 64 rank) (state_at seed rank count)
unfolding state_after
one_on seed rank count = rw (add-one count) (after_step 64 multiplier_64 (increment_of 64 rank) count (started 64 multiplier_64 seed (increment_of 64 rank)).state)
