-- All ranks at their starts.
use Rattle.std.specs.Prelude.{◌≡◌, ℕ, ℤ, List, Some, length, slice_get, get_or}
use Rattle.pb_world.specs.World.{beginning}
use Rattle.pb_local.specs.Tree.{program_of}
use Rattle.pb_local.specs.Family.{text_start, Sequence, family}
use Rattle.pb_chan.specs.Lists.{words_in}
use Rattle.pb_ctree.specs.declared.tree.CTree.{CTree}
use Rattle.pb_machine.specs.declared.rank.Rank.{Rank}
use Rattle.pb_machine.specs.Steps.{state_of}
use Rattle.pb_sim_world.specs.declared.stand.Stand.{Stand}
use Rattle.pb_sim_world.specs.declared.state.State.{State}
use Rattle.pb_sim_world.specs.States.{program, fresh, stand}
use Rattle.pb_sim_world.specs.Sound.{IsRank, IsState}
use Rattle.pb_sim_world.specs.Worlds.{world_of}

-- the rank with number r at its start
pub record IsAtStart (tree : CTree) (n : ℤ) (r : ℕ) (rank : Rank) : Type 0 where
  pub is_rank : IsRank tree n rank
  pub state : state_of tree rank ≡ text_start (program_of tree.local) n r

-- the ranks with the numbers below this one
pub record AreStarts (tree : CTree) (n : ℤ) (count : ℕ) (ranks : List Rank) : Type 0 where
  pub long : length ranks ≡ count
  pub each : (r : ℕ) (rank : Rank) → slice_get ranks r ≡ Some rank → IsAtStart tree n r rank

-- what is kept of so many ranks that have done nothing
pub record AreFresh (count : ℕ) (stands : List Stand) : Type 0 where
  pub long : length stands ≡ count
  pub each : (r : ℕ) → get_or stands r fresh ≡ fresh

-- nothing was done
pub record IsStart (tree : CTree) (n : ℤ) (s : State) : Type 0 where
  pub tree_is : s.tree ≡ tree
  pub n_is : s.n ≡ n
  pub sound : IsState s
  pub world : (sequence : Sequence) → world_of s ≡ beginning (family (program s) s.n sequence)
  pub stands : (r : ℕ) → stand s r ≡ fresh
  pub none : words_in s.channels ≡ 0
