-- The steps of a text's ranks speak of labels and kernels that are there.
use Rattle.std.proofs.Common.{◌≡◌, ℕ, zero, suc, ◌+◌, ◌<◌, ℤ, pos, ◌+ℤ◌, int_le, Bool, true, false, ◌&&◌, if◌then◌else◌, cond, nat_eq, List, [], ◌∷◌, length, Option, Some, None, unwrap_or, refl, sym, subst}
use Rattle.pb_affine.specs.declared.lin.Lin.{Lin}
use Rattle.pb_affine.specs.Values.{value}
use Rattle.pb_syntax.specs.declared.core_label.KernelKind.TheVariants as K
use Rattle.pb_world.specs.Actions.{Action, Collective, Barrier, Broadcast, Reduce, Allreduce, Kind, Chooses, Runs, Sends, Receives, Enters, Leaves, branch_in}
use Rattle.pb_world.specs.Machine.{Next, Silent, Does, Probe, Ended, Lost, Undefined}
use Rattle.pb_world.specs.Counted.{Counted, is_quiet, one_more}
use Rattle.pb_world.specs.Log.{known_by}
use Rattle.pb_local.specs.declared.stmt.Peer.{Peer}
use Rattle.pb_local.specs.declared.stmt.Test.{Test}
use Rattle.pb_local.specs.declared.stmt.Relay.{Relay}
use Rattle.pb_local.specs.Tree.{Code, when, for_each, own, loop, again, choice, send, recv, run, barrier, broadcast, reduce, allreduce, Codes, nothing, more, Parts, no_part, part, size, size_all, Program}
use Rattle.pb_local.specs.Computed.{all_fit, is_for, is_for_some, is_peer, guard_numbers, relay_numbers, branch_for, source_of}
use Rattle.pb_local.specs.Collectives.{operation_of}
use Rattle.pb_local.specs.Machine.{Todo, finished, do_next, round_of, end_of, leave, Rank, Move, ends, undefined, silent, does, chooses, probes, with_i, with_todo, pushed, entered, back_to, told, asks, turn, move_at, move_from, move, next_in, quiet_in, read_in, act_in}
use Rattle.pb_local.specs.WellMade.{Scope, outermost, behind, in_loop, loops_at, loops_in, IsMade, AreMade, ArePartsMade, IsWellMade}
use Rattle.pb_local.proofs.Moves.{move_is}
use Rattle.pb_judge_log.specs.Entries.{IsKernel, IsJoint, rows_of}

module _ (p : Program) (total : ℕ) where
  abbrev rows : Program
  rows = rows_of p.labels p.kernels

  abbrev IsThere : Collective → Type 0
  IsThere joint = IsJoint rows total (known_by joint)

  -- an action of this kind speaks of rows that are there
  abbrev pub IsRowed : Kind → Type 0
  IsRowed (Chooses kernel branches) = IsKernel rows total K.Choice kernel
  IsRowed (Runs kernel) = IsKernel rows total K.Compute kernel
  IsRowed (Sends to label) = label < length p.labels
  IsRowed (Receives from label) = label < length p.labels
  IsRowed (Enters joint) = IsThere joint
  IsRowed (Leaves joint) = IsThere joint

  -- ---- what is still to do

  -- statements that are made somewhere in the text
  abbrev AreSomewhere : Codes → Type 0
  AreSomewhere codes = (s : Scope) × AreMade p s codes

  abbrev pub IsTodo : Todo → Type 0
  IsTodo finished = Unit {0}
  IsTodo (do_next number first rest) = ((s : Scope) × IsMade p s first) × IsTodo rest
  IsTodo (round_of high number body rest) = AreSomewhere body × IsTodo rest
  IsTodo (end_of id number body rest) = AreSomewhere body × IsTodo rest
  IsTodo (leave joint rest) = IsThere joint × IsTodo rest

  push_made : (number : ℕ) (codes : Codes) (todo : Todo) → AreSomewhere codes → IsTodo todo → IsTodo (pushed number codes todo)
  push_made number nothing todo made after = after
  push_made number (more first rest) todo (s, made) after = ((s, made.0), push_made (number + size first) rest todo (behind s (loops_at first), made.1) after)

  enter_made : (number branch : ℕ) (parts : Parts) (todo : Todo) (s : Scope) → ArePartsMade p s parts → IsTodo todo → IsTodo (entered number branch parts todo)
  enter_made number branch no_part todo s made after = after
  enter_made number zero (part first rest) todo s made after = push_made number first todo (s, made.0) after
  enter_made number (suc branch) (part first rest) todo s made after = enter_made (number + size_all first) branch rest todo (behind s (loops_in first)) made.1 after

  todo_if : (b : Bool) (one other : Todo) → IsTodo one → IsTodo other → IsTodo (if b then one else other)
  todo_if true one other h g = h
  todo_if false one other h g = g

  back_made : (wanted : ℕ) (todo : Todo) → IsTodo todo → IsTodo (back_to wanted todo)
  back_made wanted finished made = made
  back_made wanted (do_next number first rest) made = back_made wanted rest made.1
  back_made wanted (round_of high number body rest) made = back_made wanted rest made.1
  back_made wanted (leave joint rest) made = back_made wanted rest made.1
  back_made wanted (end_of id number body rest) made =
      todo_if (nat_eq wanted id) (pushed number body (end_of id number body rest)) (back_to wanted rest) (push_made number body (end_of id number body rest) made.0 made) (back_made wanted rest made.1)

  -- ---- moves

  abbrev IsMove : Move → Type 0
  IsMove ends = Unit {0}
  IsMove undefined = Unit {0}
  IsMove (silent after) = IsTodo after.todo
  IsMove (does kind after) = IsRowed kind × IsTodo after.todo
  IsMove (chooses kernel branches after) = IsKernel rows total K.Choice kernel × ((branch : ℕ) → IsTodo (after branch).todo)
  IsMove (probes source after) = (label : ℕ) (y : Rank) → after label ≡ Some y → IsTodo y.todo

  record Moves (m : Move) : Type 0 where
    pub is : IsMove m

  moves_if : {m o : Move} (b : Bool) → Moves m → Moves o → Moves (if b then m else o)
  moves_if true h g = h
  moves_if false h g = g

  moves_so : {m : Move} (b : Bool) → Moves m → Moves (if b then m else undefined)
  moves_so b h = moves_if b h (record { is = tt })

  moves_silent : (x : Rank) (i : ℤ) (todo : Todo) → IsTodo todo → Moves (silent (with_i x i todo))
  moves_silent x i todo after = record { is = after }

  moves_does : (x : Rank) (kind : Kind) (rest : Todo) → IsRowed kind → IsTodo rest → Moves (does kind (with_todo x rest))
  moves_does x kind rest row after = record { is = (row, after) }

  told_made : (x : Rank) (number : ℕ) (branches : Parts) (rest : Todo) (s : Scope) → ArePartsMade p s branches → IsTodo rest → (o : Option ℕ) (y : Rank) → told x number branches rest o ≡ Some y → IsTodo y.todo
  told_made x number branches rest s made after None y e = absurd cc
  told_made x number branches rest s made after (Some branch) y e =
      let same : with_todo x (entered number branch branches rest) ≡ y = cc in
      subst (λ (z : Rank). IsTodo z.todo) same (enter_made number branch branches rest s made after)

  module _ (n : ℤ) where
    moves_asks : (x : Rank) (relays : List Relay) (from : Peer) (tests : List Test) (number : ℕ) (branches : Parts) (rest : Todo) (s : Scope) → ArePartsMade p s branches → IsTodo rest → Moves (asks p n x relays from tests number branches rest)
    moves_asks x relays from [] number branches rest s made after = record { is = tt }
    moves_asks x relays from (t ∷ ts) number branches rest s made after =
        moves_so (all_fit (relay_numbers n x.seat x.i relays))
        (moves_so (is_peer n x.seat x.i p (source_of n x.seat x.i relays from)) (record { is = λ label y e. told_made x number branches rest s made after (branch_for n x.seat x.i (t ∷ ts) label) y e }))

    moves_turn : (x : Rank) (v : ℤ) (high : Lin) (number : ℕ) (body : Codes) (rest : Todo) → AreSomewhere body → IsTodo rest → Moves (turn p n x v high number body rest)
    moves_turn x v high number body rest made after =
        moves_so _
        (moves_silent x v _ (todo_if (int_le v (value high n v)) (pushed number body (round_of high number body rest)) rest (push_made number body (round_of high number body rest) made (made, after)) after))

    moves_at : (x : Rank) (number : ℕ) (c : Code) (rest : Todo) (s : Scope) → IsMade p s c → IsTodo rest → Moves (move_at p n x number c rest)
    moves_at x number (when guards first other) rest s made after =
        moves_so _
        (moves_silent x x.i _
        (todo_if (is_for_some n x.seat x.i guards) (pushed (suc number) first rest) (pushed (suc number + size_all first) other rest) (push_made (suc number) first rest (s, made.1) after)
        (push_made (suc number + size_all first) other rest (behind s (loops_in first), made.2) after)))
    moves_at x number (for_each low high body) rest s made after = moves_turn x (value low n x.i) high (suc number) body rest (s, made.2) after
    moves_at x number (own off) rest s made after = moves_so _ (moves_silent x _ rest after)
    moves_at x number (loop id body) rest s made after =
        moves_silent x x.i _ (push_made (suc number) body (end_of id (suc number) body rest) (in_loop s id, made.1) ((in_loop s id, made.1), after))
    moves_at x number (again id) rest s made after = moves_silent x x.i _ (back_made id rest after)
    moves_at x number (choice who kernel relays from tests branches) rest s made after =
        moves_so (all_fit (guard_numbers n x.seat x.i who))
        (moves_if (is_for n x.seat x.i who)
        (record { is = ((made.0.known, made.0.chooses), λ branch. enter_made (suc number) branch branches rest s made.1 after) })
        (moves_asks x relays from tests (suc number) branches rest s made.1 after))
    moves_at x number (send label to) rest s made after = moves_so _ (moves_does x (Sends _ label) rest made.0 after)
    moves_at x number (recv label from) rest s made after = moves_so _ (moves_does x (Receives _ label) rest made.0 after)
    moves_at x number (run kernel) rest s made after = moves_does x (Runs kernel) rest made after
    moves_at x number barrier rest s made after = moves_does x (Enters Barrier) (leave Barrier rest) tt (tt, after)
    moves_at x number (broadcast label root) rest s made after = moves_so _ (moves_does x (Enters (Broadcast label _)) (leave (Broadcast label _) rest) made.0 (made.0, after))
    moves_at x number (reduce label op root) rest s made after =
        moves_so _ (moves_does x (Enters (Reduce label (operation_of op) _)) (leave (Reduce label (operation_of op) _) rest) made.0 (made.0, after))
    moves_at x number (allreduce label op) rest s made after =
        moves_does x (Enters (Allreduce label (operation_of op))) (leave (Allreduce label (operation_of op)) rest) made.0 (made.0, after)

    moves_from : (x : Rank) (todo : Todo) → IsTodo todo → Moves (move_from p n x todo)
    moves_from x finished made = record { is = tt }
    moves_from x (do_next number first rest) made = moves_at x number first rest made.0.0 made.0.1 made.1
    moves_from x (round_of high number body rest) made = moves_turn x (x.i +ℤ pos 1) high number body rest made.0 made.1
    moves_from x (end_of id number body rest) made = moves_from x rest made.1
    moves_from x (leave joint rest) made = moves_does x (Leaves joint) rest made.0 made.1

    moves : (x : Rank) → IsTodo x.todo → IsMove (move p n x)
    moves x made = (subst Moves (sym (move_is p n x)) (moves_from x x.todo made)).is

    -- ---- the machine

    pub quiet_made : (x : Rank) → IsTodo x.todo → IsTodo (quiet_in x (move p n x)).todo
    quiet_made x made = by (move p n x) (moves x made) where
      by : (m : Move) → IsMove m → IsTodo (quiet_in x m).todo
      by (silent after) h = h
      by ends h = made
      by undefined h = made
      by (does kind after) h = made
      by (chooses kernel branches after) h = made
      by (probes source after) h = made

    pub act_made : (x : Rank) (a : Action) → IsTodo x.todo → IsTodo (act_in x (move p n x) a).todo
    act_made x a made = by (move p n x) (moves x made) where
      by : (m : Move) → IsMove m → IsTodo (act_in x m a).todo
      by (does kind after) h = h.1
      by (chooses kernel branches after) h = h.1 (unwrap_or (branch_in a) 0)
      by ends h = made
      by undefined h = made
      by (silent after) h = made
      by (probes source after) h = made

    read_made : (x : Rank) (label : ℕ) (y : Rank) → read_in (move p n x) label ≡ Some y → IsTodo x.todo → IsTodo y.todo
    read_made x label y e made = by (move p n x) (moves x made) e where
      by : (m : Move) → IsMove m → read_in m label ≡ Some y → IsTodo y.todo
      by (probes source after) h f = h label y f
      by ends h f = absurd cc
      by undefined h f = absurd cc
      by (silent after) h f = absurd cc
      by (does kind after) h f = absurd cc
      by (chooses kernel branches after) h f = absurd cc

    pub read_more : (x : Counted Rank) (label : ℕ) (y : Counted Rank) → one_more x.count (read_in (move p n x.state) label) ≡ Some y → IsTodo x.state.todo → IsTodo y.state.todo
    read_more x label y e made = by (read_in (move p n x.state) label) refl e where
      by : (o : Option Rank) → read_in (move p n x.state) label ≡ o → one_more x.count o ≡ Some y → IsTodo y.state.todo
      by None f g = absurd cc
      by (Some z) f g =
          let same : record { state = z; count = suc x.count } ≡ y = cc in
          subst (λ (c : Counted Rank). IsTodo c.state.todo) same (read_made x.state label z f made)

    -- what comes next, where it is an action
    pub kind_rowed : (x : Rank) (kind : Kind) → IsTodo x.todo → next_in (move p n x) ≡ Does kind → IsRowed kind
    kind_rowed x kind made e = by (move p n x) (moves x made) e where
      by : (m : Move) → IsMove m → next_in m ≡ Does kind → IsRowed kind
      by (does other after) h f = let same : other ≡ kind = cc in subst IsRowed same h.0
      by (chooses kernel branches after) h f = let same : Chooses kernel branches ≡ kind = cc in subst IsRowed same h.0
      by ends h f = absurd cc
      by undefined h f = absurd cc
      by (silent after) h f = absurd cc
      by (probes source after) h f = absurd cc

-- the machine that counts its silent steps does what the machine does
pub does_so : (b : Bool) (next : Next) (kind : Kind) → cond (is_quiet next && b) Lost next ≡ Does kind → next ≡ Does kind
does_so b (Does other) kind e = e
does_so true Silent kind e = absurd cc
does_so false Silent kind e = absurd cc
does_so true (Probe source) kind e = absurd cc
does_so false (Probe source) kind e = absurd cc
does_so b Ended kind e = absurd cc
does_so b Lost kind e = absurd cc
does_so b Undefined kind e = absurd cc

-- a text's start
pub start_made : (p : Program) (total : ℕ) → IsWellMade p → IsTodo p total (pushed 0 p.body finished)
start_made p total made = push_made p total 0 p.body finished (outermost, made.body) tt
