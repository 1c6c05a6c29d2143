-- What the calls of a simulation leave.
use Rattle.std.specs.Prelude.{◌≡◌, ℕ, ◌+◌, ◌<◌, ◌≤◌, ℤ, pos, ◌≤ℤ◌, List}
use Rattle.pb_affine.specs.Values.{count_of}
use Rattle.pb_affine.specs.declared.range.NRange.{NRange}
use Rattle.pb_world.specs.Actions.{Action, Sends}
use Rattle.pb_world.specs.Machine.{Does}
use Rattle.pb_world.specs.World.{beginning, CanStep}
use Rattle.pb_local.specs.Collectives.{words_of}
use Rattle.pb_local.specs.Family.{Sequence, family}
use Rattle.pb_local.specs.Ranks.{total}
use Rattle.pb_local.specs.WellMade.{IsInRange}
use Rattle.pb_chan.specs.Lists.{words_in}
use Rattle.pb_ctree.specs.declared.tree.CTree.{CTree}
use Rattle.pb_sim_world.specs.States.{program, total_of, stand, next_step}
use Rattle.pb_sim_world.specs.Worlds.{world_of}
use Rattle.pb_sim.specs.declared.outcomes.StepDone.{StepDone}
use Rattle.pb_sim.specs.declared.outcomes.StepFault.{StepFault}
use Rattle.pb_sim.specs.declared.outcomes.StepFault.TheVariants as S
use Rattle.pb_sim.specs.declared.outcomes.SimFault.{SimFault}
use Rattle.pb_sim.specs.declared.outcomes.SimFault.TheVariants as F
use Rattle.pb_sim.specs.declared.counts.Counts.{Counts}
use Rattle.pb_sim.specs.declared.seen.Seen.{Seen}
use Rattle.pb_sim.specs.Done.{done_of, AreAnswered}
use Rattle.pb_sim.specs.Scheduled.{Turn, IsInMode}
use Rattle.pb_sim.specs.Seen.{IsStepped}

-- ---- the start

-- n is a number of the range
pub record IsNumber (range : NRange) (n : ℤ) : Type 0 where
  pub some : pos 0 ≤ℤ n
  pub is : IsInRange range (count_of n)

-- how many ranks there are
abbrev pub ranks_of : CTree → ℤ → ℕ
ranks_of tree n = total tree.local.roles.items n

abbrev pub no_counts : Counts
no_counts = record { sends = 0; receives = 0; runs = 0; chooses = 0; enters = 0; leaves = 0; words = 0 }

-- a simulation of this tree for this N, in which nothing was done
pub record IsBegun (tree : CTree) (n : ℤ) (x : Seen) : Type 0 where
  pub tree_is : x.state.tree ≡ tree
  pub n_is : x.state.n ≡ n
  pub number : IsNumber tree.local.range n
  pub few : ranks_of tree n ≤ 1024
  pub world : (sequence : Sequence) → world_of x.state ≡ beginning (family (program x.state) x.state.n sequence)
  pub asked : (r : ℕ) → r < total_of x.state → (stand x.state r).asked ≡ 0
  pub counts : x.counts ≡ no_counts
  pub steps : x.steps ≡ 0
  pub none : words_in x.state.channels ≡ 0

-- why there is no simulation of this tree for this N
abbrev pub IsNoStart : CTree → ℤ → SimFault → Type 0
IsNoStart tree n F.OutOfRange = IsNumber tree.local.range n → ⊥
IsNoStart tree n F.TooManyRanks = IsNumber tree.local.range n × (1024 < ranks_of tree n)
IsNoStart tree n F.NoMemory = IsNumber tree.local.range n × (ranks_of tree n ≤ 1024)

-- ---- steps

-- a rank has a step in the world of a simulation
abbrev pub HasStep : Seen → Sequence → ℕ → Type 0
HasStep x sequence r = CanStep (family (program x.state) x.state.n sequence) (world_of x.state) r

-- it is a send, after which there would be more words in flight than may be
pub record IsTooMuch (x : Seen) (r : ℕ) : Type 0 where
  pub to : ℕ
  pub label : ℕ
  pub sends : next_step x.state r ≡ Does (Sends to label)
  pub much : 16777216 < words_in x.state.channels + words_of (program x.state) x.state.n label

-- a rank has made one step more, in this mode, and this was told of it
pub record IsMade (post : ℕ → ℕ → ℕ → Type 0) (x : Seen) (turn : Turn) (done : StepDone) (y : Seen) : Type 0 where
  pub acts : List Action
  pub done_is : done ≡ done_of turn.0 acts
  pub stepped : IsStepped x turn.0 acts y
  pub mode : IsInMode turn.1 turn.0 acts (world_of y.state)
  pub answered : AreAnswered post turn.0 (stand x.state turn.0).asked acts

-- why a rank made no step
abbrev pub IsRefusal : Seen → ℕ → StepFault → Type 0
IsRefusal x r S.NotReady = (sequence : Sequence) → HasStep x sequence r → ⊥
IsRefusal x r S.Full = ((sequence : Sequence) → HasStep x sequence r) × IsTooMuch x r
IsRefusal x r S.NoMemory = ((sequence : Sequence) → HasStep x sequence r) × (IsTooMuch x r → ⊥)
