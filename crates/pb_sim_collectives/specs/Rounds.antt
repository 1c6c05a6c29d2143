-- The rounds of the program.
use Rattle.std.specs.Prelude.{ℕ, ◌+◌, suc, Option, Some, None, List, [], ◌∷◌, slice_get, zero}
use Rattle.pb_sim_collectives.specs.declared.call.Call.{Call}
use Rattle.pb_sim_collectives.specs.declared.rounds.Round.{Round}

abbrev pub call_in : Option Round → Option Call
call_in None = None
call_in (Some x) = Some x.call

abbrev pub call_at : List Round → ℕ → Option Call
call_at xs k = call_in (slice_get xs k)

abbrev pub came_in : Option Round → ℕ
came_in None = 0
came_in (Some x) = x.came

abbrev pub came_at : List Round → ℕ → ℕ
came_at xs k = came_in (slice_get xs k)

abbrev pub one_more : Round → Round
one_more x = record { call = x.call; came = x.came + 1 }

-- one more at place k, or behind the last
abbrev pub with_one : List Round → ℕ → Call → List Round
with_one [] k call = record { call = call; came = 1 } ∷ []
with_one (x ∷ xs) zero call = one_more x ∷ xs
with_one (x ∷ xs) (suc k) call = x ∷ with_one xs k call
