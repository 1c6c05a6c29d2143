-- Worked programs on two ranks together.
use Rattle.std.proofs.Common.{◌≡◌, ℕ, zero, suc, ◌<◌, ℤ, pos, negsuc, true, List, [], ◌∷◌, refl, sym, subst, arith}
use Rattle.pb_text.specs.declared.mode.Mode.{Mode}
use Rattle.pb_text.specs.declared.mode.Mode.TheVariants.{Eager, Waiting}
use Rattle.pb_syntax.specs.declared.tree.Payload.TheVariants.{Unit as NoWords}
use Rattle.pb_world.specs.Actions.{Action, Send, Recv, Kind, Receives, AnswerTable}
use Rattle.pb_world.specs.Machine.{Silent, Does, Probe, Ended}
use Rattle.pb_world.specs.Counted.{Counted}
use Rattle.pb_world.specs.Family.{Family, choosing, running}
use Rattle.pb_world.specs.World.{Message, World, beginning, AllEager, Takes, first, later, next_of, moved, posted, taken, IsFree, Step, silent, probe, internal, send, receive, enter, leave, CanStep, Reached, start, event}
use Rattle.pb_local.specs.Tree.{Code, Codes, nothing, more, Program}
use Rattle.pb_local.specs.Tree as T
use Rattle.pb_local.specs.Machine.{Todo, finished, do_next, Rank, move}
use Rattle.pb_local.specs.Family.{Sequence, family}
use Rattle.pb_local.specs.Alone.{Passes, Comes, Reaches, Takes as TakesPart, FirstPart, OtherPart}
use Rattle.pb_local.specs.Alone as A
use Rattle.pb_local.proofs.MachineRows.{fixed, n+, w, if_at, label, ranks, one}

-- ---- short forms

abbrev no_run : Sequence
no_run = record { run = λ A m. []; over = λ A m. true }

abbrev F : Program → Family (Counted Rank)
F p = family p (pos 2) no_run

-- a rank with this index, after so many silent steps
abbrev at : ℤ → ℕ → Todo → Counted Rank
at index count todo = record { state = record { seat = record { role = 0; index = index }; i = pos 0; todo = todo }; count = count }

abbrev message : ℕ → Mode → Message
message l mode = record { label = l; words = []; mode = mode }

free_of : (p : Program) (W : World (Counted Rank)) (r : ℕ) → (F p).total ≡ 2 → r < 2 → AllEager (W.channel r 0) → AllEager (W.channel r 1) → IsFree (F p) W r
free_of p W r e lt a b = record { within = subst (λ t. r < t) (sym e) lt; none = none }
  where
    none : (q : ℕ) → q < (F p).total → AllEager (W.channel r q)
    none zero h = a
    none (suc zero) h = b
    none (suc (suc q)) h = absurd (let k : suc (suc q) < 2 = subst (λ t. suc (suc q) < t) e h in omega arith)

-- ---- one message, from the first rank to the last

abbrev to_last : Code
to_last = T.send 0 (w (n+ (negsuc 0)))

abbrev from_first : Code
from_first = T.recv 0 (w (fixed (pos 0)))

abbrev p1 : Program
p1 = ranks (label NoWords ∷ []) (more (if_at (fixed (pos 0)) to_last) (one (if_at (n+ (negsuc 0)) from_first)))

abbrev second : Todo
second = do_next 2 (if_at (n+ (negsuc 0)) from_first) finished

abbrev V1 : World (Counted Rank)
V1 = moved (F p1) (beginning (F p1)) 0 (at (pos 0) 1 (do_next 1 to_last second))

abbrev V2 : World (Counted Rank)
V2 = posted (F p1) V1 0 (at (pos 0) 0 second) 1 (message 0 Eager)

abbrev V3 : World (Counted Rank)
V3 = moved (F p1) V2 0 (at (pos 0) 1 finished)

abbrev V4 : World (Counted Rank)
V4 = moved (F p1) V3 1 (at (pos 1) 1 second)

abbrev V5 : World (Counted Rank)
V5 = moved (F p1) V4 1 (at (pos 1) 2 (do_next 3 from_first finished))

abbrev V6 : World (Counted Rank)
V6 = taken (F p1) V5 1 (at (pos 1) 0 finished) 0 []

zero_of : (W : World (Counted Rank)) → AllEager (W.channel 0 0) → AllEager (W.channel 0 1) → IsFree (F p1) W 0
zero_of W a b = free_of p1 W 0 refl (omega arith) a b

one_of : (W : World (Counted Rank)) → AllEager (W.channel 1 0) → AllEager (W.channel 1 1) → IsFree (F p1) W 1
one_of W a b = free_of p1 W 1 refl (omega arith) a b

sent : Reached (F p1) ((0, Send 1 0 []) ∷ []) V3
unfolding move
sent =
    event {V = V3} {r = 0} {acts = []} (event {V = V2} {r = 0} {acts = Send 1 0 [] ∷ []} (event {V = V1} {r = 0} {acts = []} start (silent (zero_of _ tt tt) refl)) (send Eager (zero_of _ tt tt) refl refl))
    (silent (zero_of _ tt (refl, tt)) refl)

-- all is done: both ranks have ended, and no message is left
received : Reached (F p1) ((0, Send 1 0 []) ∷ (1, Recv 0 0 []) ∷ []) V6
unfolding move
received =
    event {V = V6} {r = 1} {acts = Recv 0 0 [] ∷ []} (event {V = V5} {r = 1} {acts = []} (event {V = V4} {r = 1} {acts = []} sent (silent (one_of _ tt tt) refl)) (silent (one_of _ tt tt) refl))
    (receive {m = message 0 Eager} {rest = []} (one_of _ tt tt) refl (first refl))

ended_0 : next_of (F p1) V6 0 ≡ Ended
unfolding move
ended_0 = refl

ended_1 : next_of (F p1) V6 1 ≡ Ended
unfolding move
ended_1 = refl

none_left : V6.channel 0 1 ≡ []
none_left = refl

-- ---- what the ranks reach, beside the run of this protocol

abbrev run_of : ℕ → List (ℕ × Action)
run_of zero = []
run_of (suc m) = (0, Send 1 0 []) ∷ (1, Recv 0 0 []) ∷ []

abbrev one_message : Sequence
one_message = record { run = λ A m. run_of m; over = λ A m. true }

abbrev no_answers : AnswerTable
no_answers r = record { branches = []; words = [] }

-- rank 0 reaches the send, also by the run's front that has nothing
first_reaches : Reaches p1 (pos 2) one_message 0 1
unfolding move
first_reaches = record { state = at (pos 0) 1 (do_next 1 to_last second); comes = record { answers = no_answers; steps = 0; way = A.silent refl A.here }; there = refl }

-- rank 0 takes the other part of the second If, and rank 1 the first
first_takes : TakesPart p1 (pos 2) one_message 0 2 OtherPart
unfolding move
first_takes = record {
  state = at (pos 0) 0 second;
  comes = record { answers = no_answers; steps = 1; way = A.silent refl (A.act refl refl A.here) };
  there = refl;
  goes = refl;
  takes = refl;
}

last_takes : TakesPart p1 (pos 2) one_message 1 2 FirstPart
unfolding move
last_takes = record { state = at (pos 1) 1 second; comes = record { answers = no_answers; steps = 0; way = A.silent refl A.here }; there = refl; goes = refl; takes = refl }

last_reaches : Reaches p1 (pos 2) one_message 1 3
unfolding move
last_reaches = record { state = at (pos 1) 2 (do_next 3 from_first finished); comes = record { answers = no_answers; steps = 0; way = A.silent refl (A.silent refl A.here) }; there = refl }

-- ---- two messages whose receives stand in the other order

abbrev send_first : Code
send_first = T.send 0 (w (fixed (pos 1)))

abbrev send_second : Code
send_second = T.send 1 (w (fixed (pos 1)))

abbrev recv_second : Code
recv_second = T.recv 1 (w (fixed (pos 0)))

abbrev recv_first : Code
recv_first = T.recv 0 (w (fixed (pos 0)))

abbrev crossed : Program
crossed = ranks (label NoWords ∷ label NoWords ∷ [])
    (more (if_at (fixed (pos 0)) send_first) (more (if_at (fixed (pos 1)) recv_second) (more (if_at (fixed (pos 0)) send_second) (one (if_at (fixed (pos 1)) recv_first)))))

-- what is left from the second, the third and the fourth statement on
abbrev from_2 : Todo
from_2 = do_next 2 (if_at (fixed (pos 1)) recv_second) (do_next 4 (if_at (fixed (pos 0)) send_second) (do_next 6 (if_at (fixed (pos 1)) recv_first) finished))

abbrev from_4 : Todo
from_4 = do_next 4 (if_at (fixed (pos 0)) send_second) (do_next 6 (if_at (fixed (pos 1)) recv_first) finished)

abbrev from_6 : Todo
from_6 = do_next 6 (if_at (fixed (pos 1)) recv_first) finished

-- rank 0's first send, in this mode
abbrev X1 : World (Counted Rank)
X1 = moved (F crossed) (beginning (F crossed)) 0 (at (pos 0) 1 (do_next 1 send_first from_2))

abbrev X2 : Mode → World (Counted Rank)
X2 mode = posted (F crossed) X1 0 (at (pos 0) 0 from_2) 1 (message 0 mode)

rank_0 : (W : World (Counted Rank)) → AllEager (W.channel 0 0) → AllEager (W.channel 0 1) → IsFree (F crossed) W 0
rank_0 W a b = free_of crossed W 0 refl (omega arith) a b

rank_1 : (W : World (Counted Rank)) → AllEager (W.channel 1 0) → AllEager (W.channel 1 1) → IsFree (F crossed) W 1
rank_1 W a b = free_of crossed W 1 refl (omega arith) a b

first_sent : (mode : Mode) → Reached (F crossed) ((0, Send 1 0 []) ∷ []) (X2 mode)
unfolding move
first_sent mode =
    event {V = X2 mode} {r = 0} {acts = Send 1 0 [] ∷ []} (event {V = X1} {r = 0} {acts = []} start (silent (rank_0 _ tt tt) refl)) (send mode (rank_0 _ tt tt) refl refl)

-- eager: rank 0 goes on, and rank 1 takes the messages by their labels
abbrev X3 : World (Counted Rank)
X3 = moved (F crossed) (X2 Eager) 0 (at (pos 0) 1 from_4)

abbrev X4 : World (Counted Rank)
X4 = moved (F crossed) X3 0 (at (pos 0) 2 (do_next 5 send_second from_6))

abbrev X5 : World (Counted Rank)
X5 = posted (F crossed) X4 0 (at (pos 0) 0 from_6) 1 (message 1 Eager)

abbrev X6 : World (Counted Rank)
X6 = moved (F crossed) X5 0 (at (pos 0) 1 finished)

both_sent : Reached (F crossed) ((0, Send 1 0 []) ∷ (0, Send 1 1 []) ∷ []) X6
unfolding move
both_sent =
    event {V = X6} {r = 0} {acts = []} (event {V = X5} {r = 0} {acts = Send 1 1 [] ∷ []} (event {V = X4} {r = 0} {acts = []} (event {V = X3} {r = 0} {acts = []} (first_sent Eager) (silent (rank_0 _ tt (refl, tt)) refl)) (silent (rank_0 _ tt (refl, tt)) refl)) (send Eager (rank_0 _ tt (refl, tt)) refl refl))
    (silent (rank_0 _ tt (refl, (refl, tt))) refl)

abbrev X7 : World (Counted Rank)
X7 = moved (F crossed) X6 1 (at (pos 1) 1 from_2)

abbrev X8 : World (Counted Rank)
X8 = moved (F crossed) X7 1 (at (pos 1) 2 (do_next 3 recv_second from_4))

abbrev X9 : World (Counted Rank)
X9 = taken (F crossed) X8 1 (at (pos 1) 0 from_4) 0 (message 0 Eager ∷ [])

abbrev X10 : World (Counted Rank)
X10 = moved (F crossed) X9 1 (at (pos 1) 1 from_6)

abbrev X11 : World (Counted Rank)
X11 = moved (F crossed) X10 1 (at (pos 1) 2 (do_next 7 recv_first finished))

abbrev X12 : World (Counted Rank)
X12 = taken (F crossed) X11 1 (at (pos 1) 0 finished) 0 []

second_taken : Reached (F crossed) ((0, Send 1 0 []) ∷ (0, Send 1 1 []) ∷ (1, Recv 0 1 []) ∷ []) X9
unfolding move
second_taken =
    event {V = X9} {r = 1} {acts = Recv 0 1 [] ∷ []} (event {V = X8} {r = 1} {acts = []} (event {V = X7} {r = 1} {acts = []} both_sent (silent (rank_1 _ tt tt) refl)) (silent (rank_1 _ tt tt) refl))
    (receive {m = message 1 Eager} {rest = message 0 Eager ∷ []} (rank_1 _ tt tt) refl (later (λ e. absurd (omega arith)) (first refl)))

both_taken : Reached (F crossed) ((0, Send 1 0 []) ∷ (0, Send 1 1 []) ∷ (1, Recv 0 1 []) ∷ (1, Recv 0 0 []) ∷ []) X12
unfolding move
both_taken =
    event {V = X12} {r = 1} {acts = Recv 0 0 [] ∷ []} (event {V = X11} {r = 1} {acts = []} (event {V = X10} {r = 1} {acts = []} second_taken (silent (rank_1 _ tt tt) refl)) (silent (rank_1 _ tt tt) refl))
    (receive {m = message 0 Eager} {rest = []} (rank_1 _ tt tt) refl (first refl))

crossed_ended_0 : next_of (F crossed) X12 0 ≡ Ended
unfolding move
crossed_ended_0 = refl

crossed_ended_1 : next_of (F crossed) X12 1 ≡ Ended
unfolding move
crossed_ended_1 = refl

-- waiting: rank 0 waits for its message to be taken, and rank 1 for the other message
abbrev Y3 : World (Counted Rank)
Y3 = moved (F crossed) (X2 Waiting) 1 (at (pos 1) 1 from_2)

abbrev Y4 : World (Counted Rank)
Y4 = moved (F crossed) Y3 1 (at (pos 1) 2 (do_next 3 recv_second from_4))

waiting : Reached (F crossed) ((0, Send 1 0 []) ∷ []) Y4
unfolding move
waiting = event {V = Y4} {r = 1} {acts = []} (event {V = Y3} {r = 1} {acts = []} (first_sent Waiting) (silent (rank_1 _ tt tt) refl)) (silent (rank_1 _ tt tt) refl)

free_in : (p : Program) {W : World (Counted Rank)} {r : ℕ} {acts : List Action} {V : World (Counted Rank)} → Step (F p) W r acts V → IsFree (F p) W r
free_in p (silent f e) = f
free_in p (probe f e c d) = f
free_in p (internal f e i a) = f
free_in p (send mode f e a) = f
free_in p (receive f e t) = f
free_in p (enter mode f e g a) = f
free_in p (leave words f e h g) = f

not_free : ¬ IsFree (F crossed) Y4 0
not_free f = let e : Waiting ≡ Eager = (f.none 1 (omega arith)).0 in cc

no_message : {l : ℕ} {m : Message} {rest : List Message} → ¬ Takes l [] m rest
no_message t = elim t [ ]

none_taken : {m : Message} {rest : List Message} → ¬ Takes 1 (message 0 Waiting ∷ []) m rest
none_taken (first h) = absurd (omega arith)
none_taken (later ne t) = no_message t

does_receive : (kind : Kind) → next_of (F crossed) Y4 1 ≡ Does kind → Receives 0 1 ≡ kind
unfolding move
does_receive kind e = let h : Does (Receives 0 1) ≡ Does kind = e in cc

not_silent : ¬ (next_of (F crossed) Y4 1 ≡ Silent)
unfolding move
not_silent e = let h : Does (Receives 0 1) ≡ Silent = e in cc

not_probe : (p : ℕ) → ¬ (next_of (F crossed) Y4 1 ≡ Probe p)
unfolding move
not_probe p e = let h : Does (Receives 0 1) ≡ Probe p = e in cc

not_received : (p l : ℕ) {m : Message} {rest : List Message} → Receives 0 1 ≡ Receives p l → ¬ Takes l (Y4.channel p 1) m rest
not_received p l {m = m} {rest = rest} e t =
    let i : p ≡ 0 = cc in let j : l ≡ 1 = cc in
    none_taken (subst (λ k. Takes k (message 0 Waiting ∷ []) m rest) j (subst (λ k. Takes l (Y4.channel k 1) m rest) i t))

no_step : {acts : List Action} {V : World (Counted Rank)} → ¬ Step (F crossed) Y4 1 acts V
no_step (silent f e) = not_silent e
no_step (probe {p = p} f e c d) = not_probe p e
no_step (internal f e choosing a) = let h = does_receive _ e in cc
no_step (internal f e running a) = let h = does_receive _ e in cc
no_step (send mode f e a) = let h = does_receive _ e in cc
no_step (receive {p = p} {label = l} f e t) = not_received p l (does_receive _ e) t
no_step (enter mode f e g a) = let h = does_receive _ e in cc
no_step (leave words f e h g) = let h = does_receive _ e in cc

stuck : (r : ℕ) → r < (F crossed).total → ¬ CanStep (F crossed) Y4 r
stuck zero h can = not_free (free_in crossed can.2)
stuck (suc zero) h can = no_step can.2
stuck (suc (suc r)) h can = absurd (let k : suc (suc r) < 2 = h in omega arith)
