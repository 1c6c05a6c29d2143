-- The moves of a rank of a printed text, and what holds behind each of them.
use Rattle.std.proofs.Common.{◌≡◌, ◌≢◌, ℕ, zero, suc, ◌<◌, ◌≤◌, ℤ, pos, negsuc, Bool, true, false, ◌&&◌, if◌then◌else◌, cond, nat_le, int_le, int_lt, List, [], ◌∷◌, Option, Some, None, refl, sym, ap, ◌∙◌, subst, arith}
use Rattle.std.proofs.lemmas.Int.{ints}
use Rattle.std.proofs.lemmas.Bool.Decides.{nat_tests}
use Rattle.std.proofs.lemmas.Bool.{and_parts}
use Rattle.pb_affine.specs.declared.lin.Lin.{Lin}
use Rattle.pb_affine.specs.Values.{count_of}
use Rattle.pb_world.specs.Actions.{Action, Barrier, Broadcast, Reduce, Allreduce, Kind, Runs, Sends, Receives, Enters, Leaves}
use Rattle.pb_world.specs.Machine.{Next, Silent, Does, Probe, Ended, Lost, Undefined}
use Rattle.pb_world.specs.Counted.{Counted, is_quiet, one_more}
use Rattle.pb_world.proofs.Counted.{counts as counted_does}
use Rattle.pb_local.specs.declared.stmt.Peer.{Peer}
use Rattle.pb_local.specs.declared.stmt.Test.{Test}
use Rattle.pb_local.specs.declared.stmt.Relay.{Relay}
use Rattle.pb_local.specs.Ranks.{total}
use Rattle.pb_local.specs.Tree.{Code, when, for_each, own, loop, again, choice, send, recv, run, barrier, broadcast, reduce, allreduce, Codes, Parts, Program}
use Rattle.pb_local.specs.Computed.{all_fit, is_for, is_rank, is_peer, peer_number, peer_numbers, guard_numbers, relay_numbers, branch_for, source_of}
use Rattle.pb_local.specs.Collectives.{operation_of}
use Rattle.pb_local.specs.Machine.{Todo, finished, do_next, round_of, end_of, leave, Rank, Move, ends, undefined, silent, does, chooses, probes, with_i, with_todo, entered, told, with_peer, asks, joins, move_at, move_from, move, next_in, quiet_in, read_in, act_in, machine}
use Rattle.pb_local.specs.Family.{most_silent, is_allowed, text_machine}
use Rattle.pb_local.specs.MachineLaws.{KeepsRank, peer_of_kind, peer_of, NamesRanks, is_finished, EndsWhenFinished, LostOrUndefined, CountsWithin, FollowsAlone}

-- what a rank does is what its things to do say
pub move_is : (p : Program) (n : ℤ) (x : Rank) → move p n x ≡ move_from p n x x.todo
unfolding move
move_is p n x = refl

-- ---- the rank stays who it is, and keeps its variable but in silent steps

abbrev Behind : Rank → Move → Type 0
Behind x ends = Unit {0}
Behind x undefined = Unit {0}
Behind x (silent y) = y.seat ≡ x.seat
Behind x (does kind y) = (y.seat ≡ x.seat) × (y.i ≡ x.i)
Behind x (chooses kernel branches f) = (b : ℕ) → ((f b).seat ≡ x.seat) × ((f b).i ≡ x.i)
Behind x (probes source f) = (l : ℕ) (y : Rank) → f l ≡ Some y → (y.seat ≡ x.seat) × (y.i ≡ x.i)

record Keeps (x : Rank) (m : Move) : Type 0 where
  pub behind : Behind x m

keeps_if : {x : Rank} {m o : Move} (b : Bool) → Keeps x m → Keeps x o → Keeps x (if b then m else o)
keeps_if true h g = h
keeps_if false h g = g

-- a move that a test allows
keeps_so : {x : Rank} {m : Move} (b : Bool) → Keeps x m → Keeps x (if b then m else undefined)
keeps_so b h = keeps_if b h (record { behind = tt })

keeps_silent : (x : Rank) (i : ℤ) (todo : Todo) → Keeps x (silent (with_i x i todo))
keeps_silent x i todo = record { behind = refl }

keeps_does : (x : Rank) (kind : Kind) (todo : Todo) → Keeps x (does kind (with_todo x todo))
keeps_does x kind todo = record { behind = (refl, refl) }

behind_told : (x : Rank) (k : ℕ) (bs : Parts) (rest : Todo) (o : Option ℕ) (y : Rank) → told x k bs rest o ≡ Some y → (y.seat ≡ x.seat) × (y.i ≡ x.i)
behind_told x k bs rest None y h = cc
behind_told x k bs rest (Some b) y h = let e : with_todo x (entered k b bs rest) ≡ y = cc in (ap (λ z. z.seat) (sym e), ap (λ z. z.i) (sym e))

module _ (p : Program) (n : ℤ) where
  keeps_asks : (x : Rank) (relays : List Relay) (from : Peer) (tests : List Test) (k : ℕ) (bs : Parts) (rest : Todo) → Keeps x (asks p n x relays from tests k bs rest)
  keeps_asks x relays from [] k bs rest = record { behind = tt }
  keeps_asks x relays from (t ∷ ts) k bs rest =
      keeps_so (all_fit (relay_numbers n x.seat x.i relays))
      (keeps_so (is_peer n x.seat x.i p (source_of n x.seat x.i relays from)) (record { behind = λ l y h. behind_told x k bs rest (branch_for n x.seat x.i (t ∷ ts) l) y h }))

  keeps_at : (x : Rank) (k : ℕ) (c : Code) (rest : Todo) → Keeps x (move_at p n x k c rest)
  keeps_at x k (when gs a b) rest = keeps_so _ (keeps_silent x _ _)
  keeps_at x k (for_each low high body) rest = keeps_so _ (keeps_silent x _ _)
  keeps_at x k (own off) rest = keeps_so _ (keeps_silent x _ _)
  keeps_at x k (loop id body) rest = keeps_silent x _ _
  keeps_at x k (again id) rest = keeps_silent x _ _
  keeps_at x k (choice who kernel relays from tests bs) rest =
      keeps_so (all_fit (guard_numbers n x.seat x.i who)) (keeps_if (is_for n x.seat x.i who) (record { behind = λ b. (refl, refl) }) (keeps_asks x relays from tests (suc k) bs rest))
  keeps_at x k (send label to) rest = keeps_so _ (keeps_does x _ _)
  keeps_at x k (recv label from) rest = keeps_so _ (keeps_does x _ _)
  keeps_at x k (run kernel) rest = keeps_does x _ _
  keeps_at x k barrier rest = keeps_does x _ _
  keeps_at x k (broadcast label root) rest = keeps_so _ (keeps_does x _ _)
  keeps_at x k (reduce label op root) rest = keeps_so _ (keeps_does x _ _)
  keeps_at x k (allreduce label op) rest = keeps_does x _ _

  keeps_from : (x : Rank) (todo : Todo) → Keeps x (move_from p n x todo)
  keeps_from x finished = record { behind = tt }
  keeps_from x (do_next k c rest) = keeps_at x k c rest
  keeps_from x (round_of high k body rest) = keeps_so _ (keeps_silent x _ _)
  keeps_from x (end_of id k body rest) = keeps_from x rest
  keeps_from x (leave joint rest) = keeps_does x _ _

  behind : (x : Rank) → Behind x (move p n x)
  behind x = (subst (Keeps x) (sym (move_is p n x)) (keeps_from x x.todo)).behind

quiet_keeps : (x : Rank) (m : Move) → Behind x m → (quiet_in x m).seat ≡ x.seat
quiet_keeps x (silent y) h = h
quiet_keeps x ends h = refl
quiet_keeps x undefined h = refl
quiet_keeps x (does kind y) h = refl
quiet_keeps x (chooses kernel branches f) h = refl
quiet_keeps x (probes source f) h = refl

act_keeps : (x : Rank) (m : Move) (a : Action) → Behind x m → ((act_in x m a).seat ≡ x.seat) × ((act_in x m a).i ≡ x.i)
act_keeps x (does kind y) a h = h
act_keeps x (chooses kernel branches f) a h = h _
act_keeps x ends a h = (refl, refl)
act_keeps x undefined a h = (refl, refl)
act_keeps x (silent y) a h = (refl, refl)
act_keeps x (probes source f) a h = (refl, refl)

read_keeps : (x : Rank) (m : Move) (l : ℕ) (y : Rank) → Behind x m → read_in m l ≡ Some y → (y.seat ≡ x.seat) × (y.i ≡ x.i)
read_keeps x (probes source f) l y h e = h l y e
read_keeps x ends l y h e = cc
read_keeps x undefined l y h e = cc
read_keeps x (silent z) l y h e = cc
read_keeps x (does kind z) l y h e = cc
read_keeps x (chooses kernel branches f) l y h e = cc

pub keeps_rank : (p : Program) (n : ℤ) → KeepsRank p n
keeps_rank p n = record {
  quiet = λ x. quiet_keeps x (move p n x) (behind p n x);
  act = λ x a. (act_keeps x (move p n x) a (behind p n x)).0;
  read = λ x l y e. (read_keeps x (move p n x) l y (behind p n x) e).0;
  act_variable = λ x a. (act_keeps x (move p n x) a (behind p n x)).1;
  read_variable = λ x l y e. (read_keeps x (move p n x) l y (behind p n x) e).1;
}

-- ---- a step names ranks of the world alone

below_total : (x : ℤ) (t : ℕ) → int_le (pos 0) x && int_lt x (pos t) ≡ true → count_of x < t
below_total (pos k) t h = grind (arith, ints)
below_total (negsuc k) t h = cc

record Names (t : ℕ) (m : Move) : Type 0 where
  pub within : (q : ℕ) → peer_of (next_in m) ≡ Some q → q < t

names_this : (t q r : ℕ) → q < t → Some q ≡ Some r → r < t
names_this t q r h e = let i : q ≡ r = cc in subst (λ k. k < t) i h

names_if : {t : ℕ} {m o : Move} (b : Bool) → (b ≡ true → Names t m) → Names t o → Names t (if b then m else o)
names_if true h g = h refl
names_if false h g = g

names_so : {t : ℕ} {m : Move} (b : Bool) → (b ≡ true → Names t m) → Names t (if b then m else undefined)
names_so b h = names_if b h (record { within = λ q e. cc })

names_silent : (t : ℕ) (y : Rank) → Names t (silent y)
names_silent t y = record { within = λ q e. cc }

-- an action that names this rank, or none
names_one : (t : ℕ) (kind : Kind) (y : Rank) (q : ℕ) → q < t → peer_of_kind kind ≡ Some q → Names t (does kind y)
names_one t kind y q h e = record { within = λ r g. names_this t q r h (sym e ∙ g) }

names_none : (t : ℕ) (kind : Kind) (y : Rank) → peer_of_kind kind ≡ None → Names t (does kind y)
names_none t kind y e = record { within = λ r g. let h : None ≡ Some r = sym e ∙ g in cc }

module _ (p : Program) (n : ℤ) where
  names_peer : (x : Rank) (e : Peer) {go : ℕ → Move} → ((q : ℕ) → q < total p.roles n → Names (total p.roles n) (go q)) → Names (total p.roles n) (with_peer p n x e go)
  names_peer x e h =
      names_so (is_peer n x.seat x.i p e)
      (λ is. h _ (below_total (peer_number n x.seat x.i p e) (total p.roles n) (and_parts (all_fit (peer_numbers n x.seat x.i p e)) (is_rank p n (peer_number n x.seat x.i p e)) is).1))

  names_asks : (x : Rank) (relays : List Relay) (from : Peer) (tests : List Test) (k : ℕ) (bs : Parts) (rest : Todo) → Names (total p.roles n) (asks p n x relays from tests k bs rest)
  names_asks x relays from [] k bs rest = record { within = λ q e. cc }
  names_asks x relays from (t ∷ ts) k bs rest =
      names_so (all_fit (relay_numbers n x.seat x.i relays))
      (λ is. names_peer x (source_of n x.seat x.i relays from) {go = λ q. probes q (λ l. told x k bs rest (branch_for n x.seat x.i (t ∷ ts) l))} (λ q h. record { within = λ r e. names_this (total p.roles n) q r h e }))

  names_at : (x : Rank) (k : ℕ) (c : Code) (rest : Todo) → Names (total p.roles n) (move_at p n x k c rest)
  names_at x k (when gs a b) rest = names_so _ (λ is. names_silent _ _)
  names_at x k (for_each low high body) rest = names_so _ (λ is. names_silent _ _)
  names_at x k (own off) rest = names_so _ (λ is. names_silent _ _)
  names_at x k (loop id body) rest = names_silent _ _
  names_at x k (again id) rest = names_silent _ _
  names_at x k (choice who kernel relays from tests bs) rest =
      names_so (all_fit (guard_numbers n x.seat x.i who))
      (λ is. names_if (is_for n x.seat x.i who) (λ so. record { within = λ q e. cc }) (names_asks x relays from tests (suc k) bs rest))
  names_at x k (send label to) rest = names_peer x to {go = λ q. does (Sends q label) (with_todo x rest)} (λ q h. names_one _ (Sends q label) _ q h refl)
  names_at x k (recv label from) rest = names_peer x from {go = λ q. does (Receives q label) (with_todo x rest)} (λ q h. names_one _ (Receives q label) _ q h refl)
  names_at x k (run kernel) rest = names_none _ (Runs kernel) _ refl
  names_at x k barrier rest = names_none _ (Enters Barrier) _ refl
  names_at x k (broadcast label root) rest = names_peer x root {go = λ q. joins p n x (Broadcast label q) rest} (λ q h. names_one _ (Enters (Broadcast label q)) _ q h refl)
  names_at x k (reduce label op root) rest = names_peer x root {go = λ q. joins p n x (Reduce label (operation_of op) q) rest} (λ q h. names_one _ (Enters (Reduce label (operation_of op) q)) _ q h refl)
  names_at x k (allreduce label op) rest = names_none _ (Enters (Allreduce label (operation_of op))) _ refl

  names_from : (x : Rank) (todo : Todo) → Names (total p.roles n) (move_from p n x todo)
  names_from x finished = record { within = λ q e. cc }
  names_from x (do_next k c rest) = names_at x k c rest
  names_from x (round_of high k body rest) = names_so _ (λ is. names_silent _ _)
  names_from x (end_of id k body rest) = names_from x rest
  names_from x (leave joint rest) = names_none _ (Leaves joint) _ refl

pub names_ranks : NamesRanks
names_ranks p n x q e = (subst (Names (total p.roles n)) (sym (move_is p n x)) (names_from p n x x.todo)).within q e

-- ---- a rank has ended exactly where no statement is left

record GoesOn (m : Move) : Type 0 where
  pub goes : ¬ (next_in m ≡ Ended)

on_if : {m o : Move} (b : Bool) → GoesOn m → GoesOn o → GoesOn (if b then m else o)
on_if true h g = h
on_if false h g = g

on_so : {m : Move} (b : Bool) → GoesOn m → GoesOn (if b then m else undefined)
on_so b h = on_if b h (record { goes = λ e. cc })

on_silent : (y : Rank) → GoesOn (silent y)
on_silent y = record { goes = λ e. cc }

on_does : (kind : Kind) (y : Rank) → GoesOn (does kind y)
on_does kind y = record { goes = λ e. cc }

module _ (p : Program) (n : ℤ) where
  on_asks : (x : Rank) (relays : List Relay) (from : Peer) (tests : List Test) (k : ℕ) (bs : Parts) (rest : Todo) → GoesOn (asks p n x relays from tests k bs rest)
  on_asks x relays from [] k bs rest = record { goes = λ e. cc }
  on_asks x relays from (t ∷ ts) k bs rest = on_so (all_fit (relay_numbers n x.seat x.i relays)) (on_so (is_peer n x.seat x.i p (source_of n x.seat x.i relays from)) (record { goes = λ e. cc }))

  on_at : (x : Rank) (k : ℕ) (c : Code) (rest : Todo) → GoesOn (move_at p n x k c rest)
  on_at x k (when gs a b) rest = on_so _ (on_silent _)
  on_at x k (for_each low high body) rest = on_so _ (on_silent _)
  on_at x k (own off) rest = on_so _ (on_silent _)
  on_at x k (loop id body) rest = on_silent _
  on_at x k (again id) rest = on_silent _
  on_at x k (choice who kernel relays from tests bs) rest =
      on_so (all_fit (guard_numbers n x.seat x.i who)) (on_if (is_for n x.seat x.i who) (record { goes = λ e. cc }) (on_asks x relays from tests (suc k) bs rest))
  on_at x k (send label to) rest = on_so _ (on_does _ _)
  on_at x k (recv label from) rest = on_so _ (on_does _ _)
  on_at x k (run kernel) rest = on_does _ _
  on_at x k barrier rest = on_does _ _
  on_at x k (broadcast label root) rest = on_so _ (on_does _ _)
  on_at x k (reduce label op root) rest = on_so _ (on_does _ _)
  on_at x k (allreduce label op) rest = on_does _ _

  on_turn : (x : Rank) (high : Lin) (k : ℕ) (body : Codes) (rest : Todo) → GoesOn (move_from p n x (round_of high k body rest))
  on_turn x high k body rest = on_so _ (on_silent _)

  left_from : (x : Rank) (todo : Todo) → next_in (move_from p n x todo) ≡ Ended → is_finished todo ≡ true
  left_from x finished e = refl
  left_from x (do_next k c rest) e = absurd ((on_at x k c rest).goes e)
  left_from x (round_of high k body rest) e = absurd ((on_turn x high k body rest).goes e)
  left_from x (end_of id k body rest) e = left_from x rest e
  left_from x (leave joint rest) e = cc

  none_from : (x : Rank) (todo : Todo) → is_finished todo ≡ true → next_in (move_from p n x todo) ≡ Ended
  none_from x finished e = refl
  none_from x (do_next k c rest) e = cc
  none_from x (round_of high k body rest) e = cc
  none_from x (end_of id k body rest) e = none_from x rest e
  none_from x (leave joint rest) e = cc

pub ends_when_finished : (p : Program) (n : ℤ) → EndsWhenFinished p n
ends_when_finished p n = record {
  left = λ x e. left_from p n x x.todo (sym (ap next_in (move_is p n x)) ∙ e);
  none = λ x h. ap next_in (move_is p n x) ∙ none_from p n x x.todo h;
}

-- ---- undefined and lost

not_lost : (m : Move) → ¬ (next_in m ≡ Lost)
not_lost ends e = cc
not_lost undefined e = cc
not_lost (silent y) e = cc
not_lost (does kind y) e = cc
not_lost (chooses kernel branches f) e = cc
not_lost (probes source f) e = cc

abbrev counts : Bool → Next → Next
counts b N = cond (is_quiet N && b) Lost N

undefined_stays : (b : Bool) (N : Next) → N ≡ Undefined → counts b N ≡ Undefined
undefined_stays b N e = subst (λ m. counts b m ≡ Undefined) (sym e) refl

undefined_before : (b : Bool) (N : Next) → counts b N ≡ Undefined → N ≡ Undefined
undefined_before b Undefined e = refl
undefined_before b Lost e = cc
undefined_before b Ended e = cc
undefined_before b (Does kind) e = cc
undefined_before true Silent e = cc
undefined_before false Silent e = cc
undefined_before true (Probe source) e = cc
undefined_before false (Probe source) e = cc

lost_now : (N : Next) → is_quiet N ≡ true → counts true N ≡ Lost
lost_now Silent e = refl
lost_now (Probe source) e = refl
lost_now (Does kind) e = cc
lost_now Ended e = cc
lost_now Lost e = cc
lost_now Undefined e = cc

lost_by : (b : Bool) (N : Next) → ¬ (N ≡ Lost) → counts b N ≡ Lost → (is_quiet N ≡ true) × (b ≡ true)
lost_by true Silent not e = (refl, refl)
lost_by true (Probe source) not e = (refl, refl)
lost_by false Silent not e = cc
lost_by false (Probe source) not e = cc
lost_by b (Does kind) not e = cc
lost_by b Ended not e = cc
lost_by b Lost not e = absurd (not refl)
lost_by b Undefined not e = cc

le_true : (a b : ℕ) → a ≤ b → nat_le a b ≡ true
le_true a b h = grind (arith, nat_tests)

true_le : (a b : ℕ) → nat_le a b ≡ true → a ≤ b
true_le a b h = grind (arith, nat_tests)

pub lost_or_undefined : (p : Program) (n : ℤ) → LostOrUndefined p n
lost_or_undefined p n = record {
  undefined = λ x e. undefined_stays (nat_le (most_silent p) x.count) ((machine p n).next x.state) e;
  only_undefined = λ x e. undefined_before (nat_le (most_silent p) x.count) ((machine p n).next x.state) e;
  lost = λ x e h. subst (λ b. counts b ((machine p n).next x.state) ≡ Lost) (sym (le_true (most_silent p) x.count h)) (lost_now ((machine p n).next x.state) e);
  only_lost = λ x e. let both = lost_by (nat_le (most_silent p) x.count) ((machine p n).next x.state) (not_lost (move p n x.state)) e in (both.0, true_le (most_silent p) x.count both.1);
}

-- ---- the count

-- it would make a silent step or a probe, and it may
below_by : (b : Bool) (N : Next) → is_quiet N ≡ true → counts b N ≢ Lost → b ≡ false
below_by false N quiet not = refl
below_by true N quiet not = absurd (not (lost_now N quiet))

not_le : (a b : ℕ) → nat_le a b ≡ false → suc b ≤ a
not_le a b h = grind (arith, nat_tests)

-- what the counting machine does, the machine does
same_by : (b : Bool) (N M : Next) → counts b N ≡ M → M ≢ Lost → N ≡ M
same_by false Silent M e not = e
same_by false (Probe source) M e not = e
same_by true Silent M e not = absurd (not (sym e))
same_by true (Probe source) M e not = absurd (not (sym e))
same_by b (Does kind) M e not = e
same_by b Ended M e not = e
same_by b Lost M e not = e
same_by b Undefined M e not = e

module _ (p : Program) (n : ℤ) where
  one_left : (x : Counted Rank) (M : Next) → is_quiet M ≡ true → M ≢ Lost → (text_machine p n).next x ≡ M → suc x.count ≤ most_silent p
  one_left x M quiet not e =
      let same = same_by (nat_le (most_silent p) x.count) ((machine p n).next x.state) M e not in
      not_le (most_silent p) x.count (below_by (nat_le (most_silent p) x.count) ((machine p n).next x.state) (ap is_quiet same ∙ quiet) (λ lost. not (sym e ∙ lost)))

  count_read : (x : Counted Rank) (o : Option Rank) (y : Counted Rank) → one_more x.count o ≡ Some y → y.count ≡ suc x.count
  count_read x None y e = cc
  count_read x (Some z) y e = let h : record { state = z; count = suc x.count } ≡ y = cc in ap (λ (c : Counted Rank). c.count) (sym h)

pub counts_within : (p : Program) (n : ℤ) → CountsWithin p n
counts_within p n = record {
  quiet = λ x h e. one_left p n x Silent refl (λ l. cc) e;
  read = λ x source label y h e r. subst (λ k. k ≤ most_silent p) (sym (count_read p n x ((machine p n).read x.state label) y r)) (one_left p n x (Probe source) refl (λ l. cc) e);
  act = λ x a. refl;
}

pub follows_alone : (p : Program) (n : ℤ) (r : ℕ) (s : List Action) → FollowsAlone p n r s
follows_alone p n r s = record {
  stands = λ f. counted_does (most_silent p) (machine p n) (is_allowed p n r) zero (omega arith) f;
  ends = λ f. counted_does (most_silent p) (machine p n) (is_allowed p n r) zero (omega arith) f;
}
