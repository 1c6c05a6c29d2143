-- A choice that a rank stands at has a branch.
use Rattle.std.proofs.Common.{◌≡◌, ◌<◌, ◌≤◌, ℕ, zero, suc, ◌+◌, ℤ, pos, ◌+ℤ◌, ◌&&◌, Bool, true, false, nat_le, int_le, if◌then◌else◌, Option, Some, None, List, [], ◌∷◌, length, refl, ap, sym, subst, arith}
use Rattle.std.specs.List.{slice_get}
use Rattle.pb_affine.specs.declared.lin.Lin.{Lin}
use Rattle.pb_affine.specs.Values.{value, count_of}
use Rattle.pb_world.specs.Actions.{Broadcast, Reduce, Kind, Chooses, Runs, Sends, Receives, Enters, Leaves}
use Rattle.pb_world.specs.Machine as N
use Rattle.pb_world.specs.Counted.{Counted, is_quiet}
use Rattle.pb_local.specs.declared.stmt.Peer.{Peer}
use Rattle.pb_local.specs.declared.stmt.Test.{Test}
use Rattle.pb_local.specs.declared.stmt.Relay.{Relay}
use Rattle.pb_local.specs.Tree.{Code, when, for_each, own, loop, again, choice, send, recv, run, barrier, broadcast, reduce, allreduce, Codes, nothing, more, Parts, no_part, part, size, size_all, Program, program_of}
use Rattle.pb_local.specs.WellMade.{count_parts, Scope, behind, in_loop, loops_at, loops_in, IsMade, AreMade, ArePartsMade}
use Rattle.pb_local.specs.Computed.{all_fit, is_for, is_for_some, guard_numbers, numbers_of, is_peer, peer_number, source_of, relay_numbers, branch_for}
use Rattle.pb_local.specs.Collectives.{operation_of}
use Rattle.pb_local.specs.Machine as M
use Rattle.pb_local.specs.Family.{most_silent}
use Rattle.pb_ctree.specs.declared.tree.CTree.{CTree}
use Rattle.pb_ctree.specs.Trees.{IsTree}
use Rattle.pb_machine_next.specs.declared.step.Step.{Step}
use Rattle.pb_machine_next.specs.Place.{block_from, number_at, head, side, part_at, inside, marked, Spot, on_from, beyond, enter, spot, root, todo}
use Rattle.pb_machine.specs.declared.rank.Rank.{Rank}
use Rattle.pb_machine.specs.declared.phase.Phase.{Phase}
use Rattle.pb_machine.specs.declared.phase.Phase.TheVariants.{Going, Joined, Misled}
use Rattle.pb_machine.specs.Steps.{body_of, path_of, joined, state_of}
use Rattle.pb_sim_world.specs.declared.state.State.{State}
use Rattle.pb_sim_world.specs.States.{program, total_of, state_in, state_at, next_step}
use Rattle.pb_sim_world.specs.Sound.{IsState}
use Rattle.pb_sim_world.proofs.Leaving.{under_count}

-- each choice has a branch
abbrev mutual
  pub IsLaden : Code → Type 0
  IsLaden (when guards first other) = AreLaden first × AreLaden other
  IsLaden (for_each low high body) = AreLaden body
  IsLaden (own off) = Unit {0}
  IsLaden (loop id body) = AreLaden body
  IsLaden (again id) = Unit {0}
  IsLaden (choice who kernel relays from tests branches) = (1 ≤ count_parts branches) × ArePartsLaden branches
  IsLaden (send label to) = Unit {0}
  IsLaden (recv label from) = Unit {0}
  IsLaden (run kernel) = Unit {0}
  IsLaden barrier = Unit {0}
  IsLaden (broadcast label root) = Unit {0}
  IsLaden (reduce label op root) = Unit {0}
  IsLaden (allreduce label op) = Unit {0}

  pub AreLaden : Codes → Type 0
  AreLaden nothing = Unit {0}
  AreLaden (more c rest) = IsLaden c × AreLaden rest

  pub ArePartsLaden : Parts → Type 0
  ArePartsLaden no_part = Unit {0}
  ArePartsLaden (part b rest) = AreLaden b × ArePartsLaden rest

abbrev IsLadenTodo : M.Todo → Type 0
IsLadenTodo M.finished = Unit {0}
IsLadenTodo (M.do_next number first rest) = IsLaden first × IsLadenTodo rest
IsLadenTodo (M.round_of high number body rest) = AreLaden body × IsLadenTodo rest
IsLadenTodo (M.end_of id number body rest) = AreLaden body × IsLadenTodo rest
IsLadenTodo (M.leave joint rest) = IsLadenTodo rest

-- ---- a well-made tree

mutual
  made_laden : (p : Program) (s : Scope) (c : Code) → IsMade p s c → IsLaden c
  made_laden p s (when gs a b) h = (all_laden p s a h.1, all_laden p (behind s (loops_in a)) b h.2)
  made_laden p s (for_each l u body) h = all_laden p s body h.2
  made_laden p s (own off) h = tt
  made_laden p s (loop id body) h = all_laden p (in_loop s id) body h.1
  made_laden p s (again id) h = tt
  made_laden p s (choice who kernel rs e ts bs) h = (one h.0.some, parts_laden p s bs h.1) where
    one : 2 ≤ count_parts bs → 1 ≤ count_parts bs
    one k = omega (arith, k)
  made_laden p s (send l e) h = tt
  made_laden p s (recv l e) h = tt
  made_laden p s (run kernel) h = tt
  made_laden p s barrier h = tt
  made_laden p s (broadcast l e) h = tt
  made_laden p s (reduce l op e) h = tt
  made_laden p s (allreduce l op) h = tt

  all_laden : (p : Program) (s : Scope) (b : Codes) → AreMade p s b → AreLaden b
  all_laden p s nothing h = tt
  all_laden p s (more c cs) h = (made_laden p s c h.0, all_laden p (behind s (loops_at c)) cs h.1)

  parts_laden : (p : Program) (s : Scope) (bs : Parts) → ArePartsMade p s bs → ArePartsLaden bs
  parts_laden p s no_part h = tt
  parts_laden p s (part a rest) h = (all_laden p s a h.0, parts_laden p (behind s (loops_in a)) rest h.1)

-- ---- places

pushed_laden : (k : ℕ) (cs : Codes) (rest : M.Todo) → AreLaden cs → IsLadenTodo rest → IsLadenTodo (M.pushed k cs rest)
pushed_laden k nothing rest h g = g
pushed_laden k (more c cs) rest h g = (h.0, pushed_laden (k + size c) cs rest h.1 g)

from_laden : (k : ℕ) (cs : Codes) → AreLaden cs → AreLaden (block_from k cs)
from_laden zero cs h = h
from_laden (suc k) nothing h = tt
from_laden (suc k) (more c cs) h = from_laden k cs h.1

head_laden : (cs : Codes) → AreLaden cs → IsLaden (head cs)
head_laden nothing h = tt
head_laden (more c cs) h = h.0

side_laden : (k : ℕ) (a b : Codes) → AreLaden a → AreLaden b → AreLaden (side k a b)
side_laden zero a b h g = h
side_laden (suc k) a b h g = g

part_laden : (k : ℕ) (bs : Parts) → ArePartsLaden bs → AreLaden (part_at k bs)
part_laden k no_part h = tt
part_laden zero (part a rest) h = h.0
part_laden (suc k) (part a rest) h = part_laden k rest h.1

inside_laden : (k : ℕ) (c : Code) → IsLaden c → AreLaden (inside k c)
inside_laden k (when gs a b) h = side_laden k a b h.0 h.1
inside_laden k (for_each l u body) h = h
inside_laden k (loop id body) h = h
inside_laden k (choice who kernel rs e ts bs) h = part_laden k bs h.1
inside_laden k (own off) h = tt
inside_laden k (again id) h = tt
inside_laden k (send l e) h = tt
inside_laden k (recv l e) h = tt
inside_laden k (run kernel) h = tt
inside_laden k barrier h = tt
inside_laden k (broadcast l e) h = tt
inside_laden k (reduce l op e) h = tt
inside_laden k (allreduce l op) h = tt

marked_laden : (m : ℕ) (c : Code) (rest : M.Todo) → IsLaden c → IsLadenTodo rest → IsLadenTodo (marked m c rest)
marked_laden m (for_each l u body) rest h g = (h, g)
marked_laden m (loop id body) rest h g = (h, g)
marked_laden m (when gs a b) rest h g = g
marked_laden m (choice who kernel rs e ts bs) rest h g = g
marked_laden m (own off) rest h g = g
marked_laden m (again id) rest h g = g
marked_laden m (send l e) rest h g = g
marked_laden m (recv l e) rest h g = g
marked_laden m (run kernel) rest h g = g
marked_laden m barrier rest h g = g
marked_laden m (broadcast l e) rest h g = g
marked_laden m (reduce l op e) rest h g = g
marked_laden m (allreduce l op) rest h g = g

abbrev IsLadenSpot : Spot → Type 0
IsLadenSpot s = AreLaden s.block × IsLadenTodo s.rest

on_laden : (s : Spot) (k : ℕ) → IsLadenSpot s → IsLadenTodo (on_from s k)
on_laden s k h = pushed_laden (number_at s.number k s.block) (block_from k s.block) s.rest (from_laden k s.block h.0) h.1

enter_laden : (s : Spot) (f : Step) → IsLadenSpot s → IsLadenSpot (enter s f)
enter_laden s f h =
    let c = head_laden (block_from f.at s.block) (from_laden f.at s.block h.0) in
    (inside_laden f.part (head (block_from f.at s.block)) c, marked_laden (number_at s.number f.at s.block) (head (block_from f.at s.block)) (beyond s f.at) c (on_laden s (suc f.at) h))

spot_laden : (s : Spot) (fs : List Step) → IsLadenSpot s → IsLadenSpot (spot s fs)
spot_laden s [] h = h
spot_laden s (f ∷ fs) h = spot_laden (enter s f) fs (enter_laden s f h)

joined_laden : (phase : Phase) (rest : M.Todo) → IsLadenTodo rest → IsLadenTodo (joined phase rest)
joined_laden Going rest h = h
joined_laden (Joined call) rest h = h
joined_laden Misled rest h = h

rank_laden : (tree : CTree) (rank : Rank) → IsTree tree → IsLadenTodo (state_of tree rank).state.todo
rank_laden tree rank h =
    joined_laden rank.phase (todo (body_of tree) (path_of rank) rank.at)
    (on_laden (spot (root (body_of tree)) (path_of rank)) rank.at (spot_laden (root (body_of tree)) (path_of rank) (all_laden (program_of tree.local) _ (program_of tree.local).body h.made.body, tt)))

-- ---- moves

abbrev IsMoreKind : Kind → Type 0
IsMoreKind (Chooses kernel branches) = 0 < branches
IsMoreKind (Runs kernel) = Unit {0}
IsMoreKind (Sends to label) = Unit {0}
IsMoreKind (Receives from label) = Unit {0}
IsMoreKind (Enters joint) = Unit {0}
IsMoreKind (Leaves joint) = Unit {0}

abbrev IsMore : M.Move → Type 0
IsMore M.ends = Unit {0}
IsMore M.undefined = Unit {0}
IsMore (M.silent x) = Unit {0}
IsMore (M.does kind x) = IsMoreKind kind
IsMore (M.chooses kernel branches f) = 0 < branches
IsMore (M.probes source f) = Unit {0}

more_if : (b : Bool) (m k : M.Move) → IsMore m → IsMore k → IsMore (if b then m else k)
more_if true m k h g = h
more_if false m k h g = g

module _ (p : Program) (n : ℤ) where
  more_peer : (x : M.Rank) (e : Peer) (go : ℕ → M.Move) → ((q : ℕ) → IsMore (go q)) → IsMore (M.with_peer p n x e go)
  more_peer x e go h = more_if (is_peer n x.seat x.i p e) (go (count_of (peer_number n x.seat x.i p e))) M.undefined (h (count_of (peer_number n x.seat x.i p e))) tt

  more_quietly : (numbers : List ℤ) (x : M.Rank) → IsMore (M.quietly numbers x)
  more_quietly numbers x = more_if (all_fit numbers) (M.silent x) M.undefined tt tt

  more_turn : (x : M.Rank) (v : ℤ) (high : Lin) (k : ℕ) (body : Codes) (rest : M.Todo) → IsMore (M.turn p n x v high k body rest)
  more_turn x v high k body rest = more_quietly (v ∷ value high n v ∷ []) (M.with_i x v (if int_le v (value high n v) then M.pushed k body (M.round_of high k body rest) else rest))

  more_asks : (x : M.Rank) (relays : List Relay) (from : Peer) (tests : List Test) (k : ℕ) (bs : Parts) (rest : M.Todo) → IsMore (M.asks p n x relays from tests k bs rest)
  more_asks x relays from [] k bs rest = tt
  more_asks x relays from (t ∷ ts) k bs rest =
      more_if (all_fit (relay_numbers n x.seat x.i relays)) (M.with_peer p n x (source_of n x.seat x.i relays from) (λ q. M.probes q (λ l. M.told x k bs rest (branch_for n x.seat x.i (t ∷ ts) l)))) M.undefined
      (more_peer x (source_of n x.seat x.i relays from) (λ q. M.probes q (λ l. M.told x k bs rest (branch_for n x.seat x.i (t ∷ ts) l))) (λ q. tt)) tt

  more_at : (x : M.Rank) (k : ℕ) (c : Code) (rest : M.Todo) → IsLaden c → IsMore (M.move_at p n x k c rest)
  more_at x k (when gs a b) rest h = more_quietly (numbers_of n x.seat x.i gs) (M.with_todo x (if is_for_some n x.seat x.i gs then M.pushed (suc k) a rest else M.pushed (suc k + size_all a) b rest))
  more_at x k (for_each low high body) rest h = more_turn x (value low n x.i) high (suc k) body rest
  more_at x k (own off) rest h = more_quietly ((x.seat.index +ℤ off) ∷ []) (M.with_i x (x.seat.index +ℤ off) rest)
  more_at x k (loop id body) rest h = tt
  more_at x k (again id) rest h = tt
  more_at x k (choice who kernel relays from tests bs) rest h =
      more_if (all_fit (guard_numbers n x.seat x.i who)) (if is_for n x.seat x.i who then M.chooses kernel (count_parts bs) (λ b. M.with_todo x (M.entered (suc k) b bs rest)) else M.asks p n x relays from tests (suc k) bs rest) M.undefined
      (more_if (is_for n x.seat x.i who) (M.chooses kernel (count_parts bs) (λ b. M.with_todo x (M.entered (suc k) b bs rest))) (M.asks p n x relays from tests (suc k) bs rest) h.0 (more_asks x relays from tests (suc k) bs rest)) tt
  more_at x k (send label to) rest h = more_peer x to (λ q. M.does (Sends q label) (M.with_todo x rest)) (λ q. tt)
  more_at x k (recv label from) rest h = more_peer x from (λ q. M.does (Receives q label) (M.with_todo x rest)) (λ q. tt)
  more_at x k (run kernel) rest h = tt
  more_at x k barrier rest h = tt
  more_at x k (broadcast label root) rest h = more_peer x root (λ q. M.joins p n x (Broadcast label q) rest) (λ q. tt)
  more_at x k (reduce label op root) rest h = more_peer x root (λ q. M.joins p n x (Reduce label (operation_of op) q) rest) (λ q. tt)
  more_at x k (allreduce label op) rest h = tt

  more_from : (x : M.Rank) (t : M.Todo) → IsLadenTodo t → IsMore (M.move_from p n x t)
  more_from x M.finished h = tt
  more_from x (M.do_next k c rest) h = more_at x k c rest h.0
  more_from x (M.round_of high k body rest) h = more_turn x (x.i +ℤ pos 1) high k body rest
  more_from x (M.end_of id k body rest) h = more_from x rest h.1
  more_from x (M.leave joint rest) h = tt

  more_move : (x : M.Rank) → IsLadenTodo x.todo → IsMore (M.move p n x)
  unfolding M.move
  more_move x h = more_from x x.todo h

  more_kind : (m : M.Move) (kernel branches : ℕ) → IsMore m → M.next_in m ≡ N.Does (Chooses kernel branches) → 0 < branches
  more_kind (M.does kind y) kernel branches h e = subst IsMoreKind (same e) h where
    same : ◌≡◌ {A = N.Next} (N.Does kind) (N.Does (Chooses kernel branches)) → kind ≡ Chooses kernel branches
    same e = cc
  more_kind (M.chooses k b g) kernel branches h e = subst (λ (c : ℕ). 0 < c) (same e) h where
    same : ◌≡◌ {A = N.Next} (N.Does (Chooses k b)) (N.Does (Chooses kernel branches)) → b ≡ branches
    same e = cc
  more_kind (M.silent y) kernel branches h e = cc
  more_kind M.ends kernel branches h e = cc
  more_kind M.undefined kernel branches h e = cc
  more_kind (M.probes source g) kernel branches h e = cc

state_laden : (s : State) (r : ℕ) → IsState s → r < total_of s → IsLadenTodo (state_at s r).state.todo
state_laden s r sound h = by_rank (slice_get s.ranks.items r) refl where
  l : r < length s.ranks.items
  l = subst (λ (k : ℕ). r < k) (sym sound.ranks) h

  by_rank : (o : Option Rank) → slice_get s.ranks.items r ≡ o → IsLadenTodo (state_at s r).state.todo
  by_rank (Some rank) e = subst (λ (x : Counted M.Rank). IsLadenTodo x.state.todo) (sym (ap (state_in s r) e)) (rank_laden s.tree rank sound.tree)
  by_rank None e = subst (λ (x : Counted M.Rank). IsLadenTodo x.state.todo) (sym (ap (state_in s r) e)) (pushed_laden 0 (program s).body M.finished (all_laden (program s) _ (program s).body sound.tree.made.body) tt)

pub some_branch : (s : State) (r kernel branches : ℕ) → IsState s → r < total_of s → next_step s r ≡ N.Does (Chooses kernel branches) → 0 < branches
some_branch s r kernel branches sound h e =
    let m = M.move (program s) s.n (state_at s r).state in
    more_kind (program s) s.n (M.move (program s) s.n (state_at s r).state) kernel branches (more_move (program s) s.n (state_at s r).state (state_laden s r sound h))
    (under_count (is_quiet (M.next_in m) && nat_le (most_silent (program s)) (state_at s r).count) (M.next_in m) (N.Does (Chooses kernel branches)) e lost) where
      lost : ◌≡◌ {A = N.Next} N.Lost (N.Does (Chooses kernel branches)) → ⊥
      lost z = cc
