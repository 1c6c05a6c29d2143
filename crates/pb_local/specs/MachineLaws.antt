-- What the machine of a printed text keeps, whatever the program.
use Rattle.std.specs.Prelude.{◌≡◌, ℕ, ◌<◌, ◌≤◌, ℤ, Bool, true, false, Option, Some, None, List}
use Rattle.pb_world.specs.Actions.{Action, Collective, Barrier, Broadcast, Reduce, Allreduce, Kind, Chooses, Runs, Sends, Receives, Enters, Leaves}
use Rattle.pb_world.specs.Machine.{Next, Silent, Does, Probe, Ended, Lost, Undefined, Follows}
use Rattle.pb_world.specs.Counted.{Counted, is_quiet}
use Rattle.pb_local.specs.Ranks.{total}
use Rattle.pb_local.specs.Tree.{Program}
use Rattle.pb_local.specs.Machine.{Todo, finished, do_next, round_of, end_of, leave, Rank, machine}
use Rattle.pb_local.specs.Family.{most_silent, is_allowed, text_machine, text_start}
use Rattle.pb_local.specs.Alone.{FollowsText, EndsText}

-- Every step keeps who the rank is, and actions and probes keep the variable too
pub record KeepsRank (p : Program) (n : ℤ) : Type 0 where
  pub quiet : (x : Rank) → ((machine p n).quiet x).seat ≡ x.seat
  pub act : (x : Rank) (a : Action) → ((machine p n).act x a).seat ≡ x.seat
  pub read : (x : Rank) (label : ℕ) (y : Rank) → (machine p n).read x label ≡ Some y → y.seat ≡ x.seat
  pub act_variable : (x : Rank) (a : Action) → ((machine p n).act x a).i ≡ x.i
  pub read_variable : (x : Rank) (label : ℕ) (y : Rank) → (machine p n).read x label ≡ Some y → y.i ≡ x.i

abbrev pub root_of : Collective → Option ℕ
root_of Barrier = None
root_of (Broadcast label root) = Some root
root_of (Reduce label operation root) = Some root
root_of (Allreduce label operation) = None

abbrev pub peer_of_kind : Kind → Option ℕ
peer_of_kind (Sends to label) = Some to
peer_of_kind (Receives from label) = Some from
peer_of_kind (Enters joint) = root_of joint
peer_of_kind (Chooses kernel branches) = None
peer_of_kind (Runs kernel) = None
peer_of_kind (Leaves joint) = None

-- the rank that the next step names as a receiver, a source or a root
abbrev pub peer_of : Next → Option ℕ
peer_of (Does kind) = peer_of_kind kind
peer_of (Probe source) = Some source
peer_of Silent = None
peer_of Ended = None
peer_of Lost = None
peer_of Undefined = None

-- A step names only ranks of the world
abbrev pub NamesRanks : Type 0
NamesRanks = (p : Program) (n : ℤ) (x : Rank) (q : ℕ) → peer_of ((machine p n).next x) ≡ Some q → q < total p.roles n

-- no statement is left
abbrev pub is_finished : Todo → Bool
is_finished finished = true
is_finished (do_next number first rest) = false
is_finished (round_of high number body rest) = false
is_finished (end_of id number body rest) = is_finished rest
is_finished (leave joint rest) = false

-- A rank has ended exactly where no statement is left
pub record EndsWhenFinished (p : Program) (n : ℤ) : Type 0 where
  pub left : (x : Rank) → (machine p n).next x ≡ Ended → is_finished x.todo ≡ true
  pub none : (x : Rank) → is_finished x.todo ≡ true → (machine p n).next x ≡ Ended

-- Undefined comes before lost, and a rank is lost exactly where it would make one silent step, or one probe, too many
pub record LostOrUndefined (p : Program) (n : ℤ) : Type 0 where
  pub undefined : (x : Counted Rank) → (machine p n).next x.state ≡ Undefined → (text_machine p n).next x ≡ Undefined
  pub only_undefined : (x : Counted Rank) → (text_machine p n).next x ≡ Undefined → (machine p n).next x.state ≡ Undefined
  pub lost : (x : Counted Rank) → is_quiet ((machine p n).next x.state) ≡ true → most_silent p ≤ x.count → (text_machine p n).next x ≡ Lost
  pub only_lost : (x : Counted Rank) → (text_machine p n).next x ≡ Lost → (is_quiet ((machine p n).next x.state) ≡ true) × (most_silent p ≤ x.count)

-- A rank never makes more silent steps than the bound, and an action sets the count back
pub record CountsWithin (p : Program) (n : ℤ) : Type 0 where
  pub quiet : (x : Counted Rank) → x.count ≤ most_silent p → (text_machine p n).next x ≡ Silent → ((text_machine p n).quiet x).count ≤ most_silent p
  pub read : (x : Counted Rank) (source label : ℕ) (y : Counted Rank) → x.count ≤ most_silent p → (text_machine p n).next x ≡ Probe source → (text_machine p n).read x label ≡ Some y → y.count ≤ most_silent p
  pub act : (x : Counted Rank) (a : Action) → ((text_machine p n).act x a).count ≡ 0

-- What a rank follows alone, its machine in the world follows
pub record FollowsAlone (p : Program) (n : ℤ) (r : ℕ) (s : List Action) : Type 0 where
  pub stands : FollowsText p n r s → Follows (text_machine p n) (is_allowed p n r) (text_start p n r) s false
  pub ends : EndsText p n r s → Follows (text_machine p n) (is_allowed p n r) (text_start p n r) s true
