-- Where no exit of a collective is still to do, no step is an exit, and only an entry puts one before the rest.
use Rattle.std.proofs.Common.{◌≡◌, ℕ, zero, suc, ◌+◌, ℤ, pos, ◌+ℤ◌, Bool, true, false, cond, nat_eq, int_le, if◌then◌else◌, Option, Some, None, List, [], ◌∷◌, refl, ap, subst}
use Rattle.pb_affine.specs.declared.lin.Lin.{Lin}
use Rattle.pb_affine.specs.Values.{value, count_of}
use Rattle.pb_world.specs.Actions.{Action, Collective, Broadcast, Reduce, Kind, Chooses, Runs, Sends, Receives, Enters, Leaves, kind_of}
use Rattle.pb_world.specs.Machine as W
use Rattle.pb_local.specs.declared.stmt.Peer.{Peer}
use Rattle.pb_local.specs.declared.stmt.Test.{Test}
use Rattle.pb_local.specs.declared.stmt.Relay.{Relay}
use Rattle.pb_local.specs.Tree.{Code, when, for_each, own, loop, again, choice, send, recv, run, barrier, broadcast, reduce, allreduce, Codes, nothing, more, Parts, no_part, part, size, size_all, Program}
use Rattle.pb_local.specs.Computed.{all_fit, is_for, is_for_some, guard_numbers, numbers_of, is_peer, peer_number, source_of, relay_numbers, branch_for}
use Rattle.pb_local.specs.WellMade.{count_parts}
use Rattle.pb_local.specs.Collectives.{operation_of}
use Rattle.pb_local.specs.Machine as M
use Rattle.pb_sim_world.specs.Sound.{IsOut}

-- behind an entry
abbrev pub IsExit : Collective → M.Todo → Type 0
IsExit j M.finished = ⊥
IsExit j (M.do_next k first rest) = ⊥
IsExit j (M.round_of high k body rest) = ⊥
IsExit j (M.end_of id k body rest) = ⊥
IsExit j (M.leave i rest) = (i ≡ j) × IsOut rest

abbrev pub IsFairDoes : Kind → M.Todo → Type 0
IsFairDoes (Chooses kernel branches) t = IsOut t
IsFairDoes (Runs kernel) t = IsOut t
IsFairDoes (Sends to label) t = IsOut t
IsFairDoes (Receives from label) t = IsOut t
IsFairDoes (Enters j) t = IsExit j t
IsFairDoes (Leaves j) t = ⊥

abbrev pub IsFairAfter : Option M.Rank → Type 0
IsFairAfter None = Unit {0}
IsFairAfter (Some y) = IsOut y.todo

abbrev pub IsFair : M.Move → Type 0
IsFair M.ends = Unit {0}
IsFair M.undefined = Unit {0}
IsFair (M.silent x) = IsOut x.todo
IsFair (M.does kind x) = IsFairDoes kind x.todo
IsFair (M.chooses kernel branches f) = (b : ℕ) → IsOut (f b).todo
IsFair (M.probes source f) = (l : ℕ) → IsFairAfter (f l)

pub out_pushed : (k : ℕ) (cs : Codes) (rest : M.Todo) → IsOut rest → IsOut (M.pushed k cs rest)
out_pushed k nothing rest h = h
out_pushed k (more c cs) rest h = out_pushed (k + size c) cs rest h

out_entered : (k x : ℕ) (bs : Parts) (rest : M.Todo) → IsOut rest → IsOut (M.entered k x bs rest)
out_entered k x no_part rest h = h
out_entered k zero (part b bs) rest h = out_pushed k b rest h
out_entered k (suc x) (part b bs) rest h = out_entered (k + size_all b) x bs rest h

out_if : (b : Bool) (t u : M.Todo) → IsOut t → IsOut u → IsOut (if b then t else u)
out_if true t u h k = h
out_if false t u h k = k

out_back : (id : ℕ) (t : M.Todo) → IsOut t → IsOut (M.back_to id t)
out_back id M.finished h = h
out_back id (M.do_next k c rest) h = out_back id rest h
out_back id (M.round_of high k body rest) h = out_back id rest h
out_back id (M.leave joint rest) h = absurd h
out_back id (M.end_of x k body rest) h = out_if (nat_eq id x) (M.pushed k body (M.end_of x k body rest)) (M.back_to id rest) (out_pushed k body (M.end_of x k body rest) h) (out_back id rest h)

fair_if : (b : Bool) (m : M.Move) → IsFair m → IsFair (if b then m else M.undefined)
fair_if true m h = h
fair_if false m h = tt

fair_either : (b : Bool) (m k : M.Move) → IsFair m → IsFair k → IsFair (if b then m else k)
fair_either true m k h l = h
fair_either false m k h l = l

fair_quietly : (numbers : List ℤ) (x : M.Rank) → IsOut x.todo → IsFair (M.quietly numbers x)
fair_quietly numbers x h = fair_if (all_fit numbers) (M.silent x) h

fair_told : (x : M.Rank) (k : ℕ) (bs : Parts) (rest : M.Todo) (o : Option ℕ) → IsOut rest → IsFairAfter (M.told x k bs rest o)
fair_told x k bs rest None h = tt
fair_told x k bs rest (Some b) h = out_entered k b bs rest h

module _ (p : Program) (n : ℤ) where
  fair_peer : (x : M.Rank) (e : Peer) (go : ℕ → M.Move) → ((q : ℕ) → IsFair (go q)) → IsFair (M.with_peer p n x e go)
  fair_peer x e go h = fair_if (is_peer n x.seat x.i p e) (go (count_of (peer_number n x.seat x.i p e))) (h (count_of (peer_number n x.seat x.i p e)))

  fair_turn : (x : M.Rank) (v : ℤ) (high : Lin) (k : ℕ) (body : Codes) (rest : M.Todo) → IsOut rest → IsFair (M.turn p n x v high k body rest)
  fair_turn x v high k body rest h =
      fair_quietly (v ∷ value high n v ∷ []) (M.with_i x v (if int_le v (value high n v) then M.pushed k body (M.round_of high k body rest) else rest))
      (out_if (int_le v (value high n v)) (M.pushed k body (M.round_of high k body rest)) rest (out_pushed k body (M.round_of high k body rest) h) h)

  fair_asks : (x : M.Rank) (relays : List Relay) (from : Peer) (tests : List Test) (k : ℕ) (bs : Parts) (rest : M.Todo) → IsOut rest → IsFair (M.asks p n x relays from tests k bs rest)
  fair_asks x relays from [] k bs rest h = tt
  fair_asks x relays from (t ∷ ts) k bs rest h =
      fair_if (all_fit (relay_numbers n x.seat x.i relays)) (M.with_peer p n x (source_of n x.seat x.i relays from) (λ q. M.probes q (λ l. M.told x k bs rest (branch_for n x.seat x.i (t ∷ ts) l))))
      (fair_peer x (source_of n x.seat x.i relays from) (λ q. M.probes q (λ l. M.told x k bs rest (branch_for n x.seat x.i (t ∷ ts) l))) (λ q l. fair_told x k bs rest (branch_for n x.seat x.i (t ∷ ts) l) h))

  fair_at : (x : M.Rank) (k : ℕ) (c : Code) (rest : M.Todo) → IsOut rest → IsFair (M.move_at p n x k c rest)
  fair_at x k (when gs a b) rest h = fair_quietly (numbers_of n x.seat x.i gs) (M.with_todo x (if is_for_some n x.seat x.i gs then M.pushed (suc k) a rest else M.pushed (suc k + size_all a) b rest)) (out_if (is_for_some n x.seat x.i gs) (M.pushed (suc k) a rest) (M.pushed (suc k + size_all a) b rest) (out_pushed (suc k) a rest h) (out_pushed (suc k + size_all a) b rest h))
  fair_at x k (for_each low high body) rest h = fair_turn x (value low n x.i) high (suc k) body rest h
  fair_at x k (own off) rest h = fair_quietly ((x.seat.index +ℤ off) ∷ []) (M.with_i x (x.seat.index +ℤ off) rest) h
  fair_at x k (loop id body) rest h = out_pushed (suc k) body (M.end_of id (suc k) body rest) h
  fair_at x k (again id) rest h = out_back id rest h
  fair_at x k (choice who kernel relays from tests bs) rest h =
      fair_if (all_fit (guard_numbers n x.seat x.i who)) (if is_for n x.seat x.i who then M.chooses kernel (count_parts bs) (λ b. M.with_todo x (M.entered (suc k) b bs rest)) else M.asks p n x relays from tests (suc k) bs rest)
      (fair_either (is_for n x.seat x.i who) (M.chooses kernel (count_parts bs) (λ b. M.with_todo x (M.entered (suc k) b bs rest))) (M.asks p n x relays from tests (suc k) bs rest) (λ b. out_entered (suc k) b bs rest h) (fair_asks x relays from tests (suc k) bs rest h))
  fair_at x k (send label to) rest h = fair_peer x to (λ q. M.does (Sends q label) (M.with_todo x rest)) (λ q. h)
  fair_at x k (recv label from) rest h = fair_peer x from (λ q. M.does (Receives q label) (M.with_todo x rest)) (λ q. h)
  fair_at x k (run kernel) rest h = h
  fair_at x k barrier rest h = (refl, h)
  fair_at x k (broadcast label root) rest h = fair_peer x root (λ q. M.joins p n x (Broadcast label q) rest) (λ q. (refl, h))
  fair_at x k (reduce label op root) rest h = fair_peer x root (λ q. M.joins p n x (Reduce label (operation_of op) q) rest) (λ q. (refl, h))
  fair_at x k (allreduce label op) rest h = (refl, h)

  fair_from : (x : M.Rank) (t : M.Todo) → IsOut t → IsFair (M.move_from p n x t)
  fair_from x M.finished h = tt
  fair_from x (M.do_next k c rest) h = fair_at x k c rest h
  fair_from x (M.round_of high k body rest) h = fair_turn x (x.i +ℤ pos 1) high k body rest h
  fair_from x (M.end_of id k body rest) h = fair_from x rest h
  fair_from x (M.leave joint rest) h = absurd h

  pub fair_move : (x : M.Rank) → IsOut x.todo → IsFair (M.move p n x)
  unfolding M.move
  fair_move x h = fair_from x x.todo h

  pub exit_move : (x : M.Rank) (joint : Collective) (rest : M.Todo) → x.todo ≡ M.leave joint rest → M.move p n x ≡ M.does (Leaves joint) (M.with_todo x rest)
  unfolding M.move
  exit_move x joint rest e = ap (M.move_from p n x) e

-- ---- states behind a step

pub quiet_out : (x : M.Rank) (m : M.Move) → IsFair m → M.next_in m ≡ W.Silent → IsOut (M.quiet_in x m).todo
quiet_out x (M.silent y) f e = f
quiet_out x M.ends f e = cc
quiet_out x M.undefined f e = cc
quiet_out x (M.does kind y) f e = cc
quiet_out x (M.chooses kernel branches g) f e = cc
quiet_out x (M.probes source g) f e = cc

pub read_out : (m : M.Move) (source label : ℕ) → IsFair m → M.next_in m ≡ W.Probe source → IsFairAfter (M.read_in m label)
read_out (M.probes q g) source label f e = f label
read_out (M.silent y) source label f e = tt
read_out M.ends source label f e = tt
read_out M.undefined source label f e = tt
read_out (M.does kind y) source label f e = tt
read_out (M.chooses kernel branches g) source label f e = tt

does_same : (a b : Kind) → ◌≡◌ {A = W.Next} (W.Does a) (W.Does b) → a ≡ b
does_same a b e = cc

pub act_out : (x : M.Rank) (m : M.Move) (a : Action) → IsFair m → M.next_in m ≡ W.Does (kind_of a) → IsFairDoes (kind_of a) (M.act_in x m a).todo
act_out x (M.does kind y) a f e = subst (λ (z : Kind). IsFairDoes z y.todo) (does_same kind (kind_of a) e) f
act_out x (M.chooses kernel branches g) a f e = subst (λ (z : Kind). IsFairDoes z (M.act_in x (M.chooses kernel branches g) a).todo) (does_same (Chooses kernel branches) (kind_of a) e) (f _)
act_out x (M.silent y) a f e = cc
act_out x M.ends a f e = cc
act_out x M.undefined a f e = cc
act_out x (M.probes source g) a f e = cc

pub never_exit : (m : M.Move) (j : Collective) → IsFair m → M.next_in m ≡ W.Does (Leaves j) → ⊥
never_exit (M.does kind y) j f e = subst (λ (z : Kind). IsFairDoes z y.todo) (does_same kind (Leaves j) e) f
never_exit (M.chooses kernel branches g) j f e = other (does_same (Chooses kernel branches) (Leaves j) e) where
  other : ◌≡◌ {A = Kind} (Chooses kernel branches) (Leaves j) → ⊥
  other h = cc
never_exit (M.silent y) j f e = cc
never_exit M.ends j f e = cc
never_exit M.undefined j f e = cc
never_exit (M.probes source g) j f e = cc

-- the count of silent steps changes what is next to Lost alone
pub under_count : (b : Bool) (y z : W.Next) → cond b W.Lost y ≡ z → (W.Lost ≡ z → ⊥) → y ≡ z
under_count true y z e h = absurd (h e)
under_count false y z e h = e
