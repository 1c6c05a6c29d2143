-- The machine of one rank of a printed text. docs/MACHINE.md tells it in prose, under 'The printed text'.
--
-- An example: two statements of a text of the role W[0..N-1], each an If with one statement in it. Each has its number before it.
--
--   0  If of W[0]
--   1    Send of label 0 to W[N-1]
--   2  If of W[N-1]
--   3    Recv of label 0 from W[0]
--
-- At N = 2 rank 0 begins with the statements 0 and 2 to do: do_next 0 (If ..) (do_next 2 (If ..) finished). It makes these moves:
--
--   silent              its guard holds, and the first part of 0 is to do: do_next 1 (Send ..) (do_next 2 (If ..) finished)
--   does (Sends 1 0)    to rank 1, which is W[N-1]: do_next 2 (If ..) finished
--   silent              no guard of 2 holds, and its other part has nothing: finished
--   ends
--
-- Rank 1 makes the moves silent, silent, does (Receives 0 0) and ends.
--
-- The letters:
--   p  a program
--   n  the constant N
--   x  a rank with all its state
--   i  the variable of the text
--   v  a value that the variable takes
--   q  the number of a peer among the ranks
--   r  the number of a rank
use Rattle.std.specs.Prelude.{ℕ, zero, suc, ◌+◌, ℤ, pos, ◌+ℤ◌, nat_eq, int_le, if◌then◌else◌, Option, Some, None, List, [], ◌∷◌, unwrap_or}
use Rattle.pb_affine.specs.declared.lin.Lin.{Lin}
use Rattle.pb_affine.specs.Values.{value, count_of}
use Rattle.pb_world.specs.Actions.{Action, Collective, Barrier, Broadcast, Reduce, Allreduce, Kind, Chooses, Runs, Sends, Receives, Enters, Leaves, branch_in}
use Rattle.pb_world.specs.Machine.{Next, Silent, Does, Probe, Ended, Undefined, Machine}
use Rattle.pb_local.specs.declared.stmt.Peer.{Peer}
use Rattle.pb_local.specs.declared.stmt.Test.{Test}
use Rattle.pb_local.specs.declared.stmt.Relay.{Relay}
use Rattle.pb_local.specs.Ranks.{Seat, seats, seat_at}
use Rattle.pb_local.specs.Tree.{Code, when, for_each, own, loop, again, choice, send, recv, run, barrier, broadcast, reduce, allreduce, Codes, nothing, more, Parts, no_part, part, size, size_all, Program}
use Rattle.pb_local.specs.WellMade.{count_parts}
use Rattle.pb_local.specs.Computed.{all_fit, is_for, is_for_some, guard_numbers, numbers_of, peer_number, is_peer, source_of, relay_numbers, branch_for}
use Rattle.pb_local.specs.Collectives.{operation_of}

-- ---- states

-- What is still to do. Each statement has its number in text order, from 0
pub data Todo : Type 0 where
  finished : Todo
  do_next : (number : ℕ) (first : Code) (rest : Todo) → Todo
  round_of : (high : Lin) (number : ℕ) (body : Codes) (rest : Todo) → Todo  -- behind a round of a For, whose body begins with this number
  end_of : (id number : ℕ) (body : Codes) (rest : Todo) → Todo  -- behind a loop's body
  leave : (joint : Collective) (rest : Todo) → Todo  -- in a collective

-- who the rank is, the variable of the text, and what is still to do
pub record Rank : Type 0 where
  pub seat : Seat
  pub i : ℤ
  pub todo : Todo

-- What a rank does next, with its state behind that
pub data Move : Type 0 where
  ends : Move
  undefined : Move
  silent : (after : Rank) → Move
  does : (kind : Kind) (after : Rank) → Move
  chooses : (kernel branches : ℕ) (after : ℕ → Rank) → Move  -- the state by the branch
  probes : (source : ℕ) (after : ℕ → Option Rank) → Move  -- the state by the label, where there is a test for it

-- ---- what is still to do

-- these statements first, which are numbered from this number on
abbrev pub pushed : ℕ → Codes → Todo → Todo
pushed number nothing todo = todo
pushed number (more first rest) todo = do_next number first (pushed (number + size first) rest todo)

-- this branch first, where the branches are numbered from this number on
abbrev pub entered : ℕ → ℕ → Parts → Todo → Todo
entered number branch no_part todo = todo
entered number zero (part first rest) todo = pushed number first todo
entered number (suc branch) (part first rest) todo = entered (number + size_all first) branch rest todo

-- what is left inside the wanted loop is dropped, and its body begins anew
abbrev pub back_to : ℕ → Todo → Todo
back_to wanted finished = finished
back_to wanted (do_next number first rest) = back_to wanted rest
back_to wanted (round_of high number body rest) = back_to wanted rest
back_to wanted (leave joint rest) = back_to wanted rest
back_to wanted (end_of id number body rest) = if nat_eq wanted id then pushed number body (end_of id number body rest) else back_to wanted rest

-- ---- moves

-- the rank with another variable, or with other things to do
abbrev pub with_i : Rank → ℤ → Todo → Rank
with_i x i todo = record { seat = x.seat; i = i; todo = todo }

abbrev pub with_todo : Rank → Todo → Rank
with_todo x todo = with_i x x.i todo

-- a silent step that computes these numbers
abbrev pub quietly : List ℤ → Rank → Move
quietly numbers after = if all_fit numbers then silent after else undefined

-- the rank in the branch that a label told, if it told one
abbrev pub told : Rank → ℕ → Parts → Todo → Option ℕ → Option Rank
told x number branches todo None = None
told x number branches todo (Some branch) = Some (with_todo x (entered number branch branches todo))

-- Of program p at N = n. What is to do behind the statement at hand is todo
module _ (p : Program) (n : ℤ) where
  -- a move that names a peer
  abbrev pub with_peer : Rank → Peer → (ℕ → Move) → Move
  with_peer x peer go = if is_peer n x.seat x.i p peer then go (count_of (peer_number n x.seat x.i p peer)) else undefined

  -- the variable becomes v, and a round begins where that isn't above the high end
  abbrev pub turn : Rank → ℤ → Lin → ℕ → Codes → Todo → Move
  turn x v high number body todo =
      quietly (v ∷ value high n v ∷ []) (with_i x v (if int_le v (value high n v) then pushed number body (round_of high number body todo) else todo))

  -- the choice of another rank: the first message of the source says which branch was taken
  abbrev pub asks : Rank → List Relay → Peer → List Test → ℕ → Parts → Todo → Move
  asks x relays from [] number branches todo = undefined
  asks x relays from (test ∷ tests) number branches todo =
      if all_fit (relay_numbers n x.seat x.i relays)
      then with_peer x (source_of n x.seat x.i relays from) (λ q. probes q (λ label. told x number branches todo (branch_for n x.seat x.i (test ∷ tests) label)))
      else undefined

  -- both entries to a collective and what comes behind it
  abbrev pub joins : Rank → Collective → Todo → Move
  joins x joint todo = does (Enters joint) (with_todo x (leave joint todo))

  -- what the statement with this number does
  abbrev pub move_at : Rank → ℕ → Code → Todo → Move
  move_at x number (when guards first other) todo =
      quietly
      (numbers_of n x.seat x.i guards)
      (with_todo x (if is_for_some n x.seat x.i guards then pushed (suc number) first todo else pushed (suc number + size_all first) other todo))
  move_at x number (for_each low high body) todo = turn x (value low n x.i) high (suc number) body todo
  move_at x number (own off) todo = quietly ((x.seat.index +ℤ off) ∷ []) (with_i x (x.seat.index +ℤ off) todo)
  move_at x number (loop id body) todo = silent (with_todo x (pushed (suc number) body (end_of id (suc number) body todo)))
  move_at x number (again id) todo = silent (with_todo x (back_to id todo))
  move_at x number (choice who kernel relays from tests branches) todo =
      if all_fit (guard_numbers n x.seat x.i who)
      then (if is_for n x.seat x.i who
      then chooses kernel (count_parts branches) (λ branch. with_todo x (entered (suc number) branch branches todo))
      else asks x relays from tests (suc number) branches todo)
      else undefined
  move_at x number (send label to) todo = with_peer x to (λ q. does (Sends q label) (with_todo x todo))
  move_at x number (recv label from) todo = with_peer x from (λ q. does (Receives q label) (with_todo x todo))
  move_at x number (run kernel) todo = does (Runs kernel) (with_todo x todo)
  move_at x number barrier todo = joins x Barrier todo
  move_at x number (broadcast label root) todo = with_peer x root (λ q. joins x (Broadcast label q) todo)
  move_at x number (reduce label op root) todo = with_peer x root (λ q. joins x (Reduce label (operation_of op) q) todo)
  move_at x number (allreduce label op) todo = joins x (Allreduce label (operation_of op)) todo

  -- with these things to do; the end of a loop's body is passed without a step
  abbrev pub move_from : Rank → Todo → Move
  move_from x finished = ends
  move_from x (do_next number first rest) = move_at x number first rest
  move_from x (round_of high number body rest) = turn x (x.i +ℤ pos 1) high number body rest
  move_from x (end_of id number body rest) = move_from x rest
  move_from x (leave joint rest) = does (Leaves joint) (with_todo x rest)

  -- What a rank does next
  unfoldable pub move : Rank → Move
  move x = move_from x x.todo

-- ---- the machine

abbrev pub next_in : Move → Next
next_in ends = Ended
next_in undefined = Undefined
next_in (silent after) = Silent
next_in (does kind after) = Does kind
next_in (chooses kernel branches after) = Does (Chooses kernel branches)
next_in (probes source after) = Probe source

-- the state behind a silent step, the reading of a label, and an action; the state as it was where there is no such move
abbrev pub quiet_in : Rank → Move → Rank
quiet_in x (silent after) = after
quiet_in x ends = x
quiet_in x undefined = x
quiet_in x (does kind after) = x
quiet_in x (chooses kernel branches after) = x
quiet_in x (probes source after) = x

abbrev pub read_in : Move → ℕ → Option Rank
read_in (probes source after) label = after label
read_in ends label = None
read_in undefined label = None
read_in (silent after) label = None
read_in (does kind after) label = None
read_in (chooses kernel branches after) label = None

abbrev pub act_in : Rank → Move → Action → Rank
act_in x (does kind after) action = after
act_in x (chooses kernel branches after) action = after (unwrap_or (branch_in action) 0)
act_in x ends action = x
act_in x undefined action = x
act_in x (silent after) action = x
act_in x (probes source after) action = x

abbrev pub machine : Program → ℤ → Machine Rank
machine p n = record {
  next = λ x. next_in (move p n x);
  quiet = λ x. quiet_in x (move p n x);
  read = λ x label. read_in (move p n x) label;
  act = λ x action. act_in x (move p n x) action;
}

-- the rank with number r at its start
abbrev pub start : Program → ℤ → ℕ → Rank
start p n r = record { seat = seat_at r (seats p.roles n); i = pos 0; todo = pushed 0 p.body finished }
