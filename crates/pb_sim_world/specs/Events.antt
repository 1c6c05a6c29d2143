-- What an event leaves.
use Rattle.std.specs.Prelude.{◌≡◌, ℕ, ◌<◌, slice_set, List, None, nat_eq, if◌then◌else◌, ◌+◌}
use Rattle.std.specs.Global.{Vec}
use Rattle.pb_world.specs.Counted.{Counted}
use Rattle.pb_local.specs.Machine as M
use Rattle.pb_chan.specs.Lists.{Entry, words_in}
use Rattle.pb_sim_collectives.specs.Joined.{Joined}
use Rattle.pb_machine.specs.declared.rank.Rank.{Rank}
use Rattle.pb_machine.specs.declared.act.Input.{Input}
use Rattle.pb_machine.specs.declared.act.Next.{Next}
use Rattle.pb_machine.specs.Steps.{going, state_of, shown, param_of, Fits, IsStepOf}
use Rattle.pb_sim_world.specs.declared.stand.Stand.{Stand}
use Rattle.pb_sim_world.specs.declared.state.State.{State}
use Rattle.pb_sim_world.specs.States.{program, total_of, stand, state_at, next_at}
use Rattle.pb_sim_world.specs.Sound.{IsRank, IsState}
use Rattle.pb_sim_world.specs.Worlds.{world_of}
use Rattle.pb_sim_world.specs.Can.{can}
use Rattle.pb_sim_world.specs.Flight.{words_sent, words_received}
use Rattle.pb_world.specs.Actions.{Action}
use Rattle.pb_world.specs.World.{Step}
use Rattle.pb_local.specs.Family.{Sequence, family}

-- the same tree and N with other ranks, channels and collectives
abbrev pub remade : State → Vec Rank → Vec Stand → List Entry → Joined → State
remade s ranks stands channels joins = record { tree = s.tree; n = s.n; ranks = ranks; stands = stands; channels = channels; joins = joins }

-- the machine of rank r has made one step, with this input
pub record IsAdvanced (s : State) (r : ℕ) (input : Input) (ranks : Vec Rank) : Type 0 where
  pub rank : Rank
  pub written : ranks.items ≡ slice_set s.ranks.items r rank
  pub fits : Fits s.tree rank
  pub param : param_of rank ≡ s.n
  pub step : IsStepOf (program s) s.n (going (state_at s r)) input (shown s.tree rank)

-- the machine of rank r is in state z now
pub record IsMoved (s : State) (r : ℕ) (z : Counted M.Rank) (ranks : Vec Rank) : Type 0 where
  pub rank : Rank
  pub written : ranks.items ≡ slice_set s.ranks.items r rank
  pub is_rank : IsRank s.tree s.n rank
  pub state : state_of s.tree rank ≡ z

-- One event of rank r, with these actions, whatever the sequential run is. The words that are in flight are more by what was
-- sent, and fewer by what was received
pub record IsEvent (s : State) (r : ℕ) (acts : List Action) (t : State) : Type 0 where
  pub step : (sequence : Sequence) → Step (family (program s) s.n sequence) (world_of s) r acts (world_of t)
  pub sound : IsState t
  pub tree : t.tree ≡ s.tree
  pub n : t.n ≡ s.n
  pub flight : words_in t.channels + words_received acts ≡ words_in s.channels + words_sent acts

-- a rank's machine may make a step that comes next
pub record MayStep (s : State) (r : ℕ) (next : Next) : Type 0 where
  pub sound : IsState s
  pub there : r < total_of s
  pub free : (stand s r).waits ≡ None
  pub next_is : next_at s r ≡ next

-- a rank that no part of the event touches
abbrev pub IsOther : State → ℕ → State → Type 0
IsOther s r t = (q : ℕ) → (q ≡ r → ⊥) → can t q ≡ can s q

abbrev pub IsOtherThan : State → ℕ → ℕ → State → Type 0
IsOtherThan s r p t = (q : ℕ) → (q ≡ r → ⊥) → (q ≡ p → ⊥) → can t q ≡ can s q

-- rank r has asked so many words more, and no other rank has
abbrev pub IsAsked : State → ℕ → ℕ → State → Type 0
IsAsked s r count t = (q : ℕ) → (stand t q).asked ≡ (if nat_eq q r then (stand s q).asked + count else (stand s q).asked)

-- all is as before
pub record IsSame (s t : State) : Type 0 where
  pub world : world_of t ≡ world_of s
  pub sound : IsState t
  pub can : (q : ℕ) → can t q ≡ can s q
  pub tree : t.tree ≡ s.tree
  pub n : t.n ≡ s.n
  pub stands : t.stands ≡ s.stands
  pub words : words_in t.channels ≡ words_in s.channels
