-- One rank of a printed text alone: which lists of its actions it follows, and where it comes on the way.
use Rattle.std.specs.Prelude.{◌≡◌, ℕ, ℤ, Bool, true, false, if◌then◌else◌, Option, Some, None, List, ◌∷◌}
use Rattle.pb_world.specs.Actions.{Action, Recv, kind_of, AnswerTable, of_rank}
use Rattle.pb_world.specs.Machine.{Silent, Does, Probe, Machine}
use Rattle.pb_world.specs.Counted.{Counted, FollowsWithin}
use Rattle.pb_local.specs.Tree.{when, Program}
use Rattle.pb_local.specs.Computed.{is_for_some}
use Rattle.pb_local.specs.Machine.{Todo, finished, do_next, round_of, end_of, leave, Rank, machine, start}
use Rattle.pb_local.specs.Family.{Sequence, most_silent, is_allowed, text_machine, text_start}

-- Rank r does exactly these actions, and then stands at an action, a probe or its end. It makes at most `most_silent` silent
-- steps before each action, and before it stands
abbrev pub FollowsText : Program → ℤ → ℕ → List Action → Type 0
FollowsText p n r s = FollowsWithin (most_silent p) (machine p n) (is_allowed p n r) (most_silent p) (start p n r) s false

-- and then it comes to its end
abbrev pub EndsText : Program → ℤ → ℕ → List Action → Type 0
EndsText p n r s = FollowsWithin (most_silent p) (machine p n) (is_allowed p n r) (most_silent p) (start p n r) s true

-- ---- where a rank comes

-- From the first state, on the way of these actions, a machine comes to the last state. Silent steps behind the last action
-- are on the way
pub data Passes {S : Type 0} (M : Machine S) (allowed : Action → Bool) (last : S) : S → List Action → Type 0 where
  here : {s : List Action} → Passes M allowed last last s
  silent : {x : S} {s : List Action} → M.next x ≡ Silent → Passes M allowed last (M.quiet x) s → Passes M allowed last x s
  act : {x : S} {a : Action} {s : List Action} → M.next x ≡ Does (kind_of a) → allowed a ≡ true → Passes M allowed last (M.act x a) s → Passes M allowed last x (a ∷ s)
  probe : {x y : S} {p label : ℕ} {words : List ℕ} {s : List Action} → M.next x ≡ Probe p → M.read x label ≡ Some y → Passes M allowed last y (Recv p label words ∷ s) → Passes M allowed last x (Recv p label words ∷ s)

-- it comes there on the way of its part of some front of a sequential run
pub record Comes (p : Program) (n : ℤ) (sequence : Sequence) (r : ℕ) (x : Counted Rank) : Type 0 where
  pub answers : AnswerTable
  pub steps : ℕ
  pub way : Passes (text_machine p n) (is_allowed p n r) x (text_start p n r) (of_rank r (sequence.run answers steps))

-- the number of the statement at which a rank stands
abbrev pub number_at : Todo → Option ℕ
number_at finished = None
number_at (do_next number first rest) = Some number
number_at (round_of high number body rest) = None
number_at (end_of id number body rest) = number_at rest
number_at (leave joint rest) = None

-- rank r reaches the statement with number k
pub record Reaches (p : Program) (n : ℤ) (sequence : Sequence) (r k : ℕ) : Type 0 where
  pub state : Counted Rank
  pub comes : Comes p n sequence r state
  pub there : number_at state.state.todo ≡ Some k

-- the parts of an If
pub data Part : Type 0 where
  FirstPart OtherPart : Part

-- the part that a rank takes of the If at which it stands
abbrev pub part_at : ℤ → Rank → Todo → Option Part
part_at n x (do_next number (when guards first other) rest) = Some (if is_for_some n x.seat x.i guards then FirstPart else OtherPart)
part_at n x (end_of id number body rest) = part_at n x rest
part_at n x _ = None

-- rank r takes this part of the If with number k
pub record Takes (p : Program) (n : ℤ) (sequence : Sequence) (r k : ℕ) (part : Part) : Type 0 where
  pub state : Counted Rank
  pub comes : Comes p n sequence r state
  pub there : number_at state.state.todo ≡ Some k
  pub goes : (text_machine p n).next state ≡ Silent
  pub takes : part_at n state.state state.state.todo ≡ Some part
