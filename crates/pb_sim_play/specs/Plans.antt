-- Who makes the events of a simulation, and in which modes.
use Rattle.std.specs.Prelude.{◌≡◌, ℕ, ◌+◌, ◌<◌, ◌≤◌, ℤ, List, [], length, map, Some, slice_get}
use Rattle.pb_text.specs.declared.mode.Mode.{Mode}
use Rattle.pb_ctree.specs.declared.tree.CTree.{CTree}
use Rattle.pb_local.specs.Tree.{program_of}
use Rattle.pb_local.specs.Family.{Sequence, family}
use Rattle.pb_local.specs.Machine as M
use Rattle.pb_world.specs.Counted.{Counted}
use Rattle.pb_world.specs.World.{World}
use Rattle.pb_sched.specs.Draws.{pick, pick_mode}
use Rattle.pb_sched.specs.declared.schedule.Turn as D
use Rattle.pb_cli_words.specs.declared.options.Modes.{Modes}
use Rattle.pb_cli_words.specs.declared.options.Modes.TheVariants.{Each, Mixed}
use Rattle.pb_sim.specs.Scheduled.{Turn}
use Rattle.pb_sim.specs.Runs.{IsReadyList}
use Rattle.pb_sim_play.specs.declared.plan.Plan.{Plan}
use Rattle.pb_sim_play.specs.declared.plan.Plan.TheVariants.{Drawn, Given}

-- the draws of a seed, in these modes, or the events of a list
pub data Source : Type 0 where
  drawn : (seed : ℕ) (modes : Modes) → Source
  given : (turns : List Turn) → Source

-- the mode of event number t by a seed
abbrev pub mode_by : Modes → ℕ → ℕ → Mode
mode_by (Each mode) seed t = mode
mode_by Mixed seed t = pick_mode seed t

-- event number t by a seed, from 0, where these ranks have a step
abbrev pub turn_by : ℕ → Modes → ℕ → List ℕ → Turn
turn_by seed modes t list = (pick seed t list, mode_by modes seed t)

-- in a world that has such ranks
pub record IsDrawn (tree : CTree) (n : ℤ) (seed : ℕ) (modes : Modes) (t : ℕ) (W : World (Counted M.Rank)) (turn : Turn) : Type 0 where
  pub list : List ℕ
  pub ready : (sequence : Sequence) → IsReadyList (family (program_of tree.local) n sequence) W list
  pub some : 0 < length list
  pub is : turn ≡ turn_by seed modes t list

-- what event number t of a source may be in a world
abbrev pub May : CTree → ℤ → Source → ℕ → World (Counted M.Rank) → Turn → Type 0
May tree n (drawn seed modes) t W turn = IsDrawn tree n seed modes t W turn
May tree n (given turns) t W turn = slice_get turns t ≡ Some turn

-- ---- the program's own plans

abbrev pub pair_of : D.Turn → Turn
pair_of turn = (turn.rank, turn.mode)

abbrev pub source_of : Plan → Source
source_of (Drawn picks modes) = drawn picks.seed modes
source_of (Given turns) = given (map pair_of turns.now)

-- the draw of event number t comes next
abbrev pub IsAt : Plan → ℕ → Type 0
IsAt (Drawn picks modes) t = picks.turn ≡ t
IsAt (Given turns) t = Unit {0}

-- event number t, where these ranks have a step, and that there is none
abbrev pub IsNext : Source → ℕ → List ℕ → Turn → Type 0
IsNext (drawn seed modes) t list turn = (0 < length list) × (turn ≡ turn_by seed modes t list)
IsNext (given turns) t list turn = slice_get turns t ≡ Some turn

abbrev pub IsOver : Source → ℕ → List ℕ → Type 0
IsOver (drawn seed modes) t list = length list ≡ 0
IsOver (given turns) t list = length turns ≤ t
