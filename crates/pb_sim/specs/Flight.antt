-- How many words are in flight once actions were done: those of the sends less those of the receives.
use Rattle.std.specs.Prelude.{◌≡◌, ℕ, ◌+◌, ◌-◌, ◌<◌, ◌≤◌, List, map, sum, take}
use Rattle.pb_world.specs.Actions.{Action, Sends}
use Rattle.pb_world.specs.Machine.{Does}
use Rattle.pb_local.specs.Collectives.{words_of}
use Rattle.pb_sim_world.specs.Flight.{puts, gets}
use Rattle.pb_sim_world.specs.States.{program, next_step}
use Rattle.pb_sim.specs.declared.seen.Seen.{Seen}

abbrev pub sent_in : List (ℕ × Action) → ℕ
sent_in w = sum (map (λ step. puts step.1) w)

abbrev pub received_in : List (ℕ × Action) → ℕ
received_in w = sum (map (λ step. gets step.1) w)

abbrev pub in_flight : List (ℕ × Action) → ℕ
in_flight w = sent_in w - received_in w

-- after no number of these actions more words were in flight than may be
abbrev pub KeepsLimit : List (ℕ × Action) → Type 0
KeepsLimit w = (k : ℕ) → in_flight (take k w) ≤ 16777216

-- what rank r does next is a send, and behind these actions there would be more words in flight than may be
pub record SendsTooMuch (w : List (ℕ × Action)) (x : Seen) (r : ℕ) : Type 0 where
  pub to : ℕ
  pub label : ℕ
  pub sends : next_step x.state r ≡ Does (Sends to label)
  pub much : 16777216 < in_flight w + words_of (program x.state) x.state.n label
