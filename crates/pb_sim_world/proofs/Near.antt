-- A rank that a send, a receive or a collective names is a rank of the world.
use Rattle.std.proofs.Common.{◌≡◌, ◌<◌, ℕ, suc, ℤ, pos, negsuc, ◌+ℤ◌, ◌+◌, Bool, true, false, ◌&&◌, nat_lt, nat_le, int_le, int_lt, if◌then◌else◌, List, [], ◌∷◌, refl, subst, arith}
use Rattle.std.proofs.lemmas.Bool.{and_parts}
use Rattle.std.proofs.lemmas.Bool.Decides.{nat_tests}
use Rattle.pb_affine.specs.declared.lin.Lin.{Lin}
use Rattle.pb_affine.specs.Values.{value, count_of}
use Rattle.pb_world.specs.Actions.{Broadcast, Reduce, Kind, Chooses, Runs, Sends, Receives, Enters, Leaves}
use Rattle.pb_world.specs.Machine as W
use Rattle.pb_world.specs.Counted.{Counted, is_quiet}
use Rattle.pb_local.specs.declared.stmt.Peer.{Peer}
use Rattle.pb_local.specs.declared.stmt.Test.{Test}
use Rattle.pb_local.specs.declared.stmt.Relay.{Relay}
use Rattle.pb_local.specs.Ranks.{total}
use Rattle.pb_local.specs.Tree.{Code, when, for_each, own, loop, again, choice, send, recv, run, barrier, broadcast, reduce, allreduce, Codes, Parts, size_all, Program}
use Rattle.pb_local.specs.Computed.{all_fit, is_rank, is_for, is_for_some, guard_numbers, numbers_of, is_peer, peer_numbers, peer_number, source_of, relay_numbers, branch_for}
use Rattle.pb_local.specs.WellMade.{count_parts}
use Rattle.pb_local.specs.Collectives.{operation_of}
use Rattle.pb_local.specs.Machine as M
use Rattle.pb_local.specs.Family.{most_silent, text_machine}
use Rattle.pb_sim_world.specs.Sound.{IsRooted}
use Rattle.pb_sim_world.proofs.Leaving.{under_count}

abbrev pub IsNearKind : ℕ → Kind → Type 0
IsNearKind most (Chooses kernel branches) = Unit {0}
IsNearKind most (Runs kernel) = Unit {0}
IsNearKind most (Sends to label) = to < most
IsNearKind most (Receives from label) = from < most
IsNearKind most (Enters j) = IsRooted most j
IsNearKind most (Leaves j) = Unit {0}

abbrev IsNear : ℕ → M.Move → Type 0
IsNear most M.ends = Unit {0}
IsNear most M.undefined = Unit {0}
IsNear most (M.silent x) = Unit {0}
IsNear most (M.does kind x) = IsNearKind most kind
IsNear most (M.chooses kernel branches f) = Unit {0}
IsNear most (M.probes source f) = Unit {0}

near_if : (most : ℕ) (b : Bool) (m : M.Move) → (b ≡ true → IsNear most m) → IsNear most (if b then m else M.undefined)
near_if most true m h = h refl
near_if most false m h = tt

near_either : (most : ℕ) (b : Bool) (m k : M.Move) → IsNear most m → IsNear most k → IsNear most (if b then m else k)
near_either most true m k h l = h
near_either most false m k h l = l

near_rank : (x : ℤ) (t : ℕ) → int_le (pos 0) x ≡ true → int_lt x (pos t) ≡ true → count_of x < t
near_rank (pos k) t e f = let g : nat_lt k t ≡ true = f in grind (arith, nat_tests)
near_rank (negsuc k) t e f = absurd (clash e) where
  clash : false ≡ true → ⊥
  clash z = cc

module _ (p : Program) (n : ℤ) where
  near_peer : (x : M.Rank) (e : Peer) (go : ℕ → M.Move) → ((q : ℕ) → q < total p.roles n → IsNear (total p.roles n) (go q)) → IsNear (total p.roles n) (M.with_peer p n x e go)
  near_peer x e go h =
      near_if (total p.roles n) (is_peer n x.seat x.i p e) (go (count_of (peer_number n x.seat x.i p e))) (λ b.
      let a = and_parts (all_fit (peer_numbers n x.seat x.i p e)) (is_rank p n (peer_number n x.seat x.i p e)) b in
      let c = and_parts (int_le (pos 0) (peer_number n x.seat x.i p e)) (int_lt (peer_number n x.seat x.i p e) (pos (total p.roles n))) a.1 in
      h (count_of (peer_number n x.seat x.i p e)) (near_rank (peer_number n x.seat x.i p e) (total p.roles n) c.0 c.1))

  near_quietly : (numbers : List ℤ) (x : M.Rank) → IsNear (total p.roles n) (M.quietly numbers x)
  near_quietly numbers x = near_if (total p.roles n) (all_fit numbers) (M.silent x) (λ b. tt)

  near_turn : (x : M.Rank) (v : ℤ) (high : Lin) (k : ℕ) (body : Codes) (rest : M.Todo) → IsNear (total p.roles n) (M.turn p n x v high k body rest)
  near_turn x v high k body rest = near_quietly (v ∷ value high n v ∷ []) (M.with_i x v (if int_le v (value high n v) then M.pushed k body (M.round_of high k body rest) else rest))

  near_asks : (x : M.Rank) (relays : List Relay) (from : Peer) (tests : List Test) (k : ℕ) (bs : Parts) (rest : M.Todo) → IsNear (total p.roles n) (M.asks p n x relays from tests k bs rest)
  near_asks x relays from [] k bs rest = tt
  near_asks x relays from (t ∷ ts) k bs rest =
      near_if (total p.roles n) (all_fit (relay_numbers n x.seat x.i relays)) (M.with_peer p n x (source_of n x.seat x.i relays from) (λ q. M.probes q (λ l. M.told x k bs rest (branch_for n x.seat x.i (t ∷ ts) l))))
      (λ b. near_peer x (source_of n x.seat x.i relays from) (λ q. M.probes q (λ l. M.told x k bs rest (branch_for n x.seat x.i (t ∷ ts) l))) (λ q l. tt))

  near_at : (x : M.Rank) (k : ℕ) (c : Code) (rest : M.Todo) → IsNear (total p.roles n) (M.move_at p n x k c rest)
  near_at x k (when gs a b) rest = near_quietly (numbers_of n x.seat x.i gs) (M.with_todo x (if is_for_some n x.seat x.i gs then M.pushed (suc k) a rest else M.pushed (suc k + size_all a) b rest))
  near_at x k (for_each low high body) rest = near_turn x (value low n x.i) high (suc k) body rest
  near_at x k (own off) rest = near_quietly ((x.seat.index +ℤ off) ∷ []) (M.with_i x (x.seat.index +ℤ off) rest)
  near_at x k (loop id body) rest = tt
  near_at x k (again id) rest = tt
  near_at x k (choice who kernel relays from tests bs) rest =
      near_if (total p.roles n) (all_fit (guard_numbers n x.seat x.i who)) (if is_for n x.seat x.i who then M.chooses kernel (count_parts bs) (λ b. M.with_todo x (M.entered (suc k) b bs rest)) else M.asks p n x relays from tests (suc k) bs rest)
      (λ b. near_either (total p.roles n) (is_for n x.seat x.i who) (M.chooses kernel (count_parts bs) (λ b. M.with_todo x (M.entered (suc k) b bs rest))) (M.asks p n x relays from tests (suc k) bs rest) tt (near_asks x relays from tests (suc k) bs rest))
  near_at x k (send label to) rest = near_peer x to (λ q. M.does (Sends q label) (M.with_todo x rest)) (λ q h. h)
  near_at x k (recv label from) rest = near_peer x from (λ q. M.does (Receives q label) (M.with_todo x rest)) (λ q h. h)
  near_at x k (run kernel) rest = tt
  near_at x k barrier rest = tt
  near_at x k (broadcast label root) rest = near_peer x root (λ q. M.joins p n x (Broadcast label q) rest) (λ q h. h)
  near_at x k (reduce label op root) rest = near_peer x root (λ q. M.joins p n x (Reduce label (operation_of op) q) rest) (λ q h. h)
  near_at x k (allreduce label op) rest = tt

  near_from : (x : M.Rank) (t : M.Todo) → IsNear (total p.roles n) (M.move_from p n x t)
  near_from x M.finished = tt
  near_from x (M.do_next k c rest) = near_at x k c rest
  near_from x (M.round_of high k body rest) = near_turn x (x.i +ℤ pos 1) high k body rest
  near_from x (M.end_of id k body rest) = near_from x rest
  near_from x (M.leave joint rest) = tt

  near_move : (x : M.Rank) → IsNear (total p.roles n) (M.move p n x)
  unfolding M.move
  near_move x = near_from x x.todo

  near_kind : (m : M.Move) (kind : Kind) → IsNear (total p.roles n) m → M.next_in m ≡ W.Does kind → IsNearKind (total p.roles n) kind
  near_kind (M.does other y) kind f e = subst (λ (z : Kind). IsNearKind (total p.roles n) z) (same other kind e) f where
    same : (a b : Kind) → ◌≡◌ {A = W.Next} (W.Does a) (W.Does b) → a ≡ b
    same a b e = cc
  near_kind (M.chooses kernel branches g) kind f e = subst (λ (z : Kind). IsNearKind (total p.roles n) z) (same (Chooses kernel branches) kind e) tt where
    same : (a b : Kind) → ◌≡◌ {A = W.Next} (W.Does a) (W.Does b) → a ≡ b
    same a b e = cc
  near_kind (M.silent y) kind f e = cc
  near_kind M.ends kind f e = cc
  near_kind M.undefined kind f e = cc
  near_kind (M.probes source g) kind f e = cc

  pub near : (x : Counted M.Rank) (kind : Kind) → (text_machine p n).next x ≡ W.Does kind → IsNearKind (total p.roles n) kind
  near x kind e =
      near_kind (M.move p n x.state) kind (near_move x.state) (under_count (is_quiet (M.next_in (M.move p n x.state)) && nat_le (most_silent p) x.count) (M.next_in (M.move p n x.state)) (W.Does kind) e lost) where
        lost : ◌≡◌ {A = W.Next} W.Lost (W.Does kind) → ⊥
        lost z = cc
