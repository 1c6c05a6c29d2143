-- What is seen of the program's rounds and lists.
use Rattle.std.specs.Prelude.{◌≡◌, ℕ, ◌≤◌, map, length}
use Rattle.pb_sim_collectives.specs.declared.lists.Lists.{Lists}
use Rattle.pb_sim_collectives.specs.declared.rounds.Rounds.{Rounds}
use Rattle.pb_sim_collectives.specs.Joined.{Joined, number, came}
use Rattle.pb_sim_collectives.specs.Lists.{items_of}
use Rattle.pb_sim_collectives.specs.Rounds.{came_at}

abbrev pub shown : Rounds → Lists → Joined
shown rounds lists = record { calls = map (λ x. x.call) rounds.list.items; words = items_of lists }

-- the rounds count the entries
pub record IsSeen (rounds : Rounds) (lists : Lists) (total : ℕ) : Type 0 where
  pub long : length (items_of lists) ≡ total
  pub exact : (k : ℕ) → came_at rounds.list.items k ≡ came (shown rounds lists) k
  pub short : (r : ℕ) → number (shown rounds lists) r ≤ length rounds.list.items
