-- What is kept of the ranks, read rank by rank.
use Rattle.std.specs.Prelude.{ℕ, Option, Some, None, get_or, slice_get}
use Rattle.pb_text.specs.declared.mode.Mode.TheVariants.{Eager}
use Rattle.pb_world.specs.Machine as W
use Rattle.pb_world.specs.Counted.{Counted}
use Rattle.pb_local.specs.Ranks.{total}
use Rattle.pb_local.specs.Tree.{Program, program_of}
use Rattle.pb_local.specs.Machine as M
use Rattle.pb_local.specs.Family.{text_machine, text_start}
use Rattle.pb_machine.specs.declared.rank.Rank.{Rank}
use Rattle.pb_machine.specs.declared.act.Next.{Next}
use Rattle.pb_machine.specs.Steps.{state_of, next_of}
use Rattle.pb_sim_world.specs.declared.stand.Stand.{Stand}
use Rattle.pb_sim_world.specs.declared.state.State.{State}

abbrev pub program : State → Program
program s = program_of s.tree.local

abbrev pub total_of : State → ℕ
total_of s = total s.tree.local.roles.items s.n

abbrev pub fresh : Stand
fresh = record { waits = None; left = 0; mode = Eager; asked = 0 }

abbrev pub stand : State → ℕ → Stand
stand s r = get_or s.stands.items r fresh

-- a rank that isn't there stands at a start
abbrev pub state_in : State → ℕ → Option Rank → Counted M.Rank
state_in s r None = text_start (program s) s.n r
state_in s r (Some x) = state_of s.tree x

-- the state of a rank's machine
abbrev pub state_at : State → ℕ → Counted M.Rank
state_at s r = state_in s r (slice_get s.ranks.items r)

-- what it does next, as far as it alone decides it
abbrev pub next_step : State → ℕ → W.Next
next_step s r = (text_machine (program s) s.n).next (state_at s r)

abbrev pub next_at : State → ℕ → Next
next_at s r = next_of (next_step s r)
