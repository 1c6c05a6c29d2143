-- What holds of each simulation.
use Rattle.std.specs.Prelude.{◌≡◌, ◌≢◌, ℕ, suc, ◌<◌, ◌≤◌, ◌++◌, ◌∷◌, [], ℤ, pos, ◌≤ℤ◌, Option, Some, None, List, length, All, slice_get}
use Rattle.pb_affine.specs.Values.{count_of}
use Rattle.pb_world.specs.Actions.{Collective, Barrier, Broadcast, Reduce, Allreduce}
use Rattle.pb_local.specs.WellMade.{IsInRange}
use Rattle.pb_local.specs.Machine as M
use Rattle.pb_ctree.specs.declared.tree.CTree.{CTree}
use Rattle.pb_ctree.specs.Trees.{IsTree}
use Rattle.pb_chan.specs.declared.message.Message.{Message}
use Rattle.pb_chan.specs.Lists.{Entry, messages, words_in}
use Rattle.pb_sim_collectives.specs.declared.call.Call.{Call}
use Rattle.pb_sim_collectives.specs.Calls.{collective_of}
use Rattle.pb_sim_collectives.specs.Joined.{Joined, number, IsJoined}
use Rattle.pb_machine.specs.declared.rank.Rank.{Rank}
use Rattle.pb_machine.specs.declared.phase.Phase.TheVariants.{Misled}
use Rattle.pb_machine.specs.Steps.{param_of, Fits}
use Rattle.pb_sim_world.specs.declared.stand.Waits.{Waits}
use Rattle.pb_sim_world.specs.declared.state.State.{State}
use Rattle.pb_sim_world.specs.States.{total_of, stand, state_at}

-- a rank of this tree at N = n, which no label has misled
pub record IsRank (tree : CTree) (n : ℤ) (r : Rank) : Type 0 where
  pub fits : Fits tree r
  pub param : param_of r ≡ n
  pub led : r.phase ≢ Misled

-- the message that is waited for is the last of its list
pub record IsLast (label : ℕ) (ms : List Message) : Type 0 where
  pub front : List Message
  pub words : List ℕ
  pub is : ms ≡ front ++ record { label = label; words = words } ∷ []

abbrev pub IsWaiting : State → ℕ → Option Waits → Type 0
IsWaiting s r None = Unit {0}
IsWaiting s r (Some w) = (w.by < total_of s) × IsLast w.label (messages s.channels r w.by)

-- no exit of a collective is still to do
abbrev pub IsOut : M.Todo → Type 0
IsOut M.finished = Unit {0}
IsOut (M.do_next number first rest) = IsOut rest
IsOut (M.round_of high number body rest) = IsOut rest
IsOut (M.end_of id number body rest) = IsOut rest
IsOut (M.leave joint rest) = ⊥

-- the rank is in its last collective, behind so many that it has left, and this is the one that it will leave
pub record IsIn (joins : Joined) (r left : ℕ) (joint : Collective) (rest : M.Todo) : Type 0 where
  pub out : IsOut rest
  pub one : number joins r ≡ suc left
  pub call : Call
  pub there : slice_get joins.calls left ≡ Some call
  pub same : collective_of call ≡ joint

-- it has left all that it has entered, but for the one that it is in
abbrev pub IsJoining : Joined → ℕ → ℕ → M.Todo → Type 0
IsJoining joins r left (M.leave joint rest) = IsIn joins r left joint rest
IsJoining joins r left M.finished = number joins r ≡ left
IsJoining joins r left (M.do_next k first rest) = IsOut rest × (number joins r ≡ left)
IsJoining joins r left (M.round_of high k body rest) = IsOut rest × (number joins r ≡ left)
IsJoining joins r left (M.end_of id k body rest) = IsOut rest × (number joins r ≡ left)

-- a root is a rank
abbrev pub IsRooted : ℕ → Collective → Type 0
IsRooted total Barrier = Unit {0}
IsRooted total (Broadcast label root) = root < total
IsRooted total (Reduce label operation root) = root < total
IsRooted total (Allreduce label operation) = Unit {0}

-- each collective was entered by some rank
pub record AreOpened (joins : Joined) (total : ℕ) : Type 0 where
  pub some : (k : ℕ) → k < length joins.calls → (p : ℕ) × (k < number joins p)
  pub rooted : (k : ℕ) (call : Call) → slice_get joins.calls k ≡ Some call → IsRooted total (collective_of call)

-- messages are from ranks to ranks
abbrev pub AreWithin : List Entry → ℕ → Type 0
AreWithin channels total = (p q : ℕ) → messages channels p q ≢ [] → (p < total) × (q < total)

pub record IsState (s : State) : Type 0 where
  pub tree : IsTree s.tree
  pub some : pos 0 ≤ℤ s.n
  pub range : IsInRange s.tree.local.range (count_of s.n)
  pub few : total_of s ≤ 1024
  pub ranks : length s.ranks.items ≡ total_of s
  pub stands : length s.stands.items ≡ total_of s
  pub joins : length s.joins.words ≡ total_of s
  pub joined : IsJoined s.joins
  pub each : All (IsRank s.tree s.n) s.ranks.items
  pub words : words_in s.channels ≤ 16777216
  pub within : AreWithin s.channels (total_of s)
  pub opened : AreOpened s.joins (total_of s)
  pub waits : (r : ℕ) → r < total_of s → IsWaiting s r (stand s r).waits
  pub joining : (r : ℕ) → r < total_of s → IsJoining s.joins r (stand s r).left (state_at s r).state.todo
