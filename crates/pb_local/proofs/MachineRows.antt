-- Worked programs on one rank, by computation.
use Rattle.std.proofs.Common.{◌≡◌, ℕ, zero, suc, ℤ, pos, negsuc, true, List, [], ◌∷◌, Option, Some, None, refl}
use Rattle.pb_affine.specs.declared.lin.Base.TheVariants.{Fixed, Param, Var}
use Rattle.pb_affine.specs.declared.lin.Lin.{Lin}
use Rattle.pb_affine.specs.declared.guard.Guard.{Guard}
use Rattle.pb_syntax.specs.declared.core_label.CoreLabel.{CoreLabel}
use Rattle.pb_syntax.specs.declared.tree.Op.TheVariants as O
use Rattle.pb_syntax.specs.declared.tree.Payload.{Payload}
use Rattle.pb_syntax.specs.declared.tree.Payload.TheVariants.{Unit as NoWords, Int32, Uint32}
use Rattle.pb_world.specs.Actions.{Action, Choose, Send, Recv, Enter, Leave, Max, Sum, Allreduce, Reduce, Chooses, Sends}
use Rattle.pb_world.specs.Machine.{Next, Silent, Does, Probe, Ended, Lost, Undefined, Machine}
use Rattle.pb_world.specs.Counted.{Counted, FollowsWithin, ended, silent, act, probe}
use Rattle.pb_local.specs.declared.stmt.Peer.{Peer}
use Rattle.pb_local.specs.Tree.{Code, when, for_each, own, loop, again, choice, send, recv, reduce, allreduce, Codes, nothing, more, no_part, part, Program}
use Rattle.pb_local.specs.Collectives.{outcome}
use Rattle.pb_local.specs.Machine.{Todo, finished, do_next, round_of, Rank, move, machine, start}
use Rattle.pb_local.specs.Family.{most_silent, is_allowed, text_machine, text_start}
use Rattle.pb_local.specs.Alone.{EndsText}

-- ---- short forms

abbrev pub fixed : ℤ → Lin
fixed c = record { base = Fixed; off = c }

abbrev pub n+ : ℤ → Lin
n+ c = record { base = Param; off = c }

abbrev pub i+ : ℤ → Lin
i+ c = record { base = Var; off = c }

abbrev pub w : Lin → Peer
w l = record { role = 0; at = l }

abbrev pub between : Lin → Lin → Guard
between a b = record { role = 0; low = Some a; high = Some b; from = None; to = None }

-- I == l
abbrev pub only : Lin → List Guard
only l = between l l ∷ []

-- one statement for the rank with this index
abbrev pub if_at : Lin → Code → Code
if_at l c = when (only l) (more c nothing) nothing

abbrev pub label : Payload → CoreLabel
label payload = record { name = 65 ∷ []; payload = payload }

-- with the role W and this range
abbrev pub program : Lin → Lin → List CoreLabel → Codes → Program
program low high labels body = record {
  protocol = 80 ∷ [];
  range = record { low = 2; high = None };
  roles = record { name = 87 ∷ []; low = low; high = high } ∷ [];
  labels = labels;
  kernels = [];
  body = body;
}

-- `W[0..N-1]`
abbrev pub ranks : List CoreLabel → Codes → Program
ranks labels body = program (fixed (pos 0)) (n+ (negsuc 0)) labels body

abbrev pub one : Code → Codes
one c = more c nothing

abbrev signal : List CoreLabel
signal = label NoWords ∷ label NoWords ∷ []

-- what comes next, and after so many silent steps
abbrev first_next : Program → ℤ → ℕ → Next
first_next p n r = (text_machine p n).next (text_start p n r)

abbrev quietly : {S : Type 0} → Machine S → ℕ → S → S
quietly M zero x = x
quietly M (suc k) x = quietly M k (M.quiet x)

abbrev next_after : ℕ → Program → ℤ → ℕ → Next
next_after k p n r = (text_machine p n).next (quietly (text_machine p n) k (text_start p n r))

-- what comes next where as many silent steps were made as are allowed
abbrev next_at_most : Program → ℤ → ℕ → Next
next_at_most p n r = (text_machine p n).next (record { state = start p n r; count = most_silent p })

-- ---- lost

-- a loop without an action has two statements
abbrev idle : Program
idle = ranks [] (one (loop 0 (one (again 0))))

seven_steps : next_after 7 idle (pos 2) 0 ≡ Silent
unfolding move
seven_steps = refl

eight_steps : next_after 8 idle (pos 2) 0 ≡ Lost
unfolding move
eight_steps = refl

-- ---- numbers that leave int32

-- at N = 2147483647 the number N + 1 isn't computed where the role's low end doesn't hold
abbrev large_guard : Lin → Program
large_guard low = program (fixed (pos 0)) (fixed (pos 1)) signal (one (when (between low (n+ (pos 1)) ∷ []) nothing (one (send 0 (w (fixed (pos 0)))))))

large_high_end : first_next (large_guard (fixed (pos 0))) (pos 2147483647) 0 ≡ Undefined
unfolding move
large_high_end = refl

low_end_first : first_next (large_guard (fixed (pos 1))) (pos 2147483647) 0 ≡ Silent
unfolding move
low_end_first = refl

abbrev large_own : Program
large_own = ranks [] (one (own (pos 2147483647)))

fits_at_0 : first_next large_own (pos 2) 0 ≡ Silent
unfolding move
fits_at_0 = refl

leaves_at_1 : first_next large_own (pos 2) 1 ≡ Undefined
unfolding move
leaves_at_1 = refl

-- one is added behind the last round too
abbrev to_the_last : Program
to_the_last = ranks [] (one (for_each (fixed (pos 2147483647)) (fixed (pos 2147483647)) nothing))

adds_to_the_last : first_next to_the_last (pos 2) 0 ≡ Silent
unfolding move
adds_to_the_last = refl

leaves_behind_it : next_after 1 to_the_last (pos 2) 0 ≡ Undefined
unfolding move
leaves_behind_it = refl

-- ---- peers

abbrev to_nobody : Program
to_nobody = ranks signal (one (send 0 (w (n+ (pos 0)))))

no_rank : first_next to_nobody (pos 2) 0 ≡ Undefined
unfolding move
no_rank = refl

-- the number of a rank in two roles: the index behind the ranks of the role before
abbrev second_role : Program
second_role = record {
  protocol = 80 ∷ [];
  range = record { low = 2; high = None };
  roles = record { name = 77 ∷ []; low = fixed (pos 0); high = fixed (pos 0) } ∷ record { name = 87 ∷ []; low = fixed (pos 1); high = n+ (pos 0) } ∷ [];
  labels = signal;
  kernels = [];
  body = one (send 0 (record { role = 1; at = n+ (pos 0) }));
}

last_rank : first_next second_role (pos 3) 0 ≡ Does (Sends 3 0)
unfolding move
last_rank = refl

-- ---- a choice of rank 0, of which rank 1 hears from rank 0, and rank 2 from rank 1

abbrev tell : ℕ → Codes
tell l =
    more (if_at (fixed (pos 0)) (send l (w (fixed (pos 1))))) (more (if_at (fixed (pos 1)) (recv l (w (fixed (pos 0)))))
    (more (if_at (fixed (pos 1)) (send l (w (fixed (pos 2))))) (more (if_at (fixed (pos 2)) (recv l (w (fixed (pos 1))))) nothing)))

abbrev relayed : Program
relayed = ranks signal (more (own (pos 0)) (one (choice (between (fixed (pos 0)) (fixed (pos 0))) 0
    (record { guards = only (fixed (pos 2)); from = w (i+ (negsuc 0)) } ∷ []) (w (fixed (pos 0)))
    (record { branch = 0; label = 0; guards = between (fixed (pos 1)) (fixed (pos 2)) ∷ [] } ∷ record { branch = 1; label = 1; guards = between (fixed (pos 1)) (fixed (pos 2)) ∷ [] } ∷ [])
    (part (tell 0) (part (tell 1) no_part)))))

chooses : next_after 1 relayed (pos 3) 0 ≡ Does (Chooses 0 2)
unfolding move
chooses = refl

hears_from_0 : next_after 1 relayed (pos 3) 1 ≡ Probe 0
unfolding move
hears_from_0 = refl

hears_from_1 : next_after 1 relayed (pos 3) 2 ≡ Probe 1
unfolding move
hears_from_1 = refl

abbrev read_after : ℕ → Program → ℤ → ℕ → ℕ → Option (Counted Rank)
read_after k p n r l = (text_machine p n).read (quietly (text_machine p n) k (text_start p n r)) l

-- a label that no test has
no_test : read_after 1 relayed (pos 3) 2 5 ≡ None
unfolding move
no_test = refl

-- the choice, its message in the second branch, and the end
rank_1_told : EndsText relayed (pos 3) 1 (Recv 0 1 [] ∷ Send 2 1 [] ∷ [])
unfolding move
rank_1_told = silent refl (probe refl refl (silent refl (silent refl (act refl refl (silent refl (act refl refl (silent refl (ended refl))))))))

rank_2_told : EndsText relayed (pos 3) 2 (Recv 1 1 [] ∷ [])
unfolding move
rank_2_told = silent refl (probe refl refl (silent refl (silent refl (silent refl (silent refl (act refl refl (ended refl)))))))

rank_0_tells : EndsText relayed (pos 3) 0 (Choose 0 2 1 ∷ Send 1 1 [] ∷ [])
unfolding move
rank_0_tells = silent refl (act refl refl (silent refl (act refl refl (silent refl (silent refl (silent refl (ended refl)))))))

-- ---- both undefined and lost

-- at a probe the rank is lost, also where the label would make it undefined
abbrev asks_first : Program
asks_first = ranks signal (one (choice (between (fixed (pos 0)) (fixed (pos 0))) 0 [] (w (fixed (pos 0)))
    (record { branch = 0; label = 0; guards = between (fixed (pos 1)) (n+ (pos 0)) ∷ [] } ∷ []) (part nothing (part nothing no_part))))

lost_at_probe : next_at_most asks_first (pos 2) 1 ≡ Lost
unfolding move
lost_at_probe = refl

stands_at_choice : next_at_most asks_first (pos 2) 0 ≡ Does (Chooses 0 2)
unfolding move
stands_at_choice = refl

-- without tests it is undefined, also where it would be lost
abbrev untold : Program
untold = ranks signal (one (choice (between (fixed (pos 0)) (fixed (pos 0))) 0 [] (w (fixed (pos 0))) [] (part nothing (part nothing no_part))))

undefined_without_tests : next_at_most untold (pos 2) 1 ≡ Undefined
unfolding move
undefined_without_tests = refl

undefined_by_number : next_at_most large_own (pos 2) 1 ≡ Undefined
unfolding move
undefined_by_number = refl

undefined_by_peer : next_at_most to_nobody (pos 2) 1 ≡ Undefined
unfolding move
undefined_by_peer = refl

-- at its end a rank has ended, however many steps it made
ended_at_most : next_at_most (ranks [] nothing) (pos 2) 0 ≡ Ended
unfolding move
ended_at_most = refl

-- a test's guard whose number leaves int32 is met by its own label alone
abbrev large_test : Program
large_test = program (fixed (pos 0)) (fixed (pos 1)) signal (one (choice (between (fixed (pos 0)) (fixed (pos 0))) 0 [] (w (fixed (pos 0)))
    (record { branch = 0; label = 0; guards = only (n+ (pos 1)) } ∷ record { branch = 1; label = 1; guards = only (fixed (pos 1)) } ∷ []) (part nothing (part nothing no_part))))

its_own_label : (machine large_test (pos 2147483647)).read (start large_test (pos 2147483647) 1) 0 ≡ None
unfolding move
its_own_label = refl

another_label : (machine large_test (pos 2147483647)).read (start large_test (pos 2147483647) 1) 1 ≡ Some (record { seat = record { role = 0; index = pos 1 }; i = pos 0; todo = finished })
unfolding move
another_label = refl

-- ---- a For on rank 0, which hears from each of the others, at N = 3

abbrev round : Codes
round =
    more (if_at (fixed (pos 0)) (send 0 (w (i+ (pos 0))))) (more (if_at (i+ (pos 0)) (recv 0 (w (fixed (pos 0)))))
    (more (if_at (i+ (pos 0)) (send 1 (w (fixed (pos 0))))) (more (if_at (fixed (pos 0)) (recv 1 (w (i+ (pos 0))))) nothing)))

abbrev rounds : Program
rounds = ranks signal (one (for_each (fixed (pos 1)) (n+ (negsuc 0)) round))

abbrev to_do : ℤ → Todo → Rank
to_do i todo = record { seat = record { role = 0; index = pos 0 }; i = i; todo = todo }

abbrev next_round : Todo
next_round = round_of (n+ (negsuc 0)) 1 round finished

abbrev behind_send : Todo
behind_send = do_next 3 (if_at (i+ (pos 0)) (recv 0 (w (fixed (pos 0))))) (do_next 5 (if_at (i+ (pos 0)) (send 1 (w (fixed (pos 0))))) (do_next 7 (if_at (fixed (pos 0)) (recv 1 (w (i+ (pos 0))))) next_round))

abbrev EndsFrom : Rank → List Action → Type 0
EndsFrom x s = FollowsWithin (most_silent rounds) (machine rounds (pos 3)) (is_allowed rounds (pos 3) 0) (most_silent rounds) x s true

ends_last : EndsFrom (to_do (pos 2) next_round) []
unfolding move
ends_last = silent refl (ended refl)

hears_from_2 : EndsFrom (to_do (pos 2) behind_send) (Recv 2 1 [] ∷ [])
unfolding move
hears_from_2 = silent refl (silent refl (silent refl (act refl refl ends_last)))

sends_to_2 : EndsFrom (to_do (pos 1) next_round) (Send 2 0 [] ∷ Recv 2 1 [] ∷ [])
unfolding move
sends_to_2 = silent refl (silent refl (act refl refl hears_from_2))

then_from_1 : EndsFrom (to_do (pos 1) behind_send) (Recv 1 1 [] ∷ Send 2 0 [] ∷ Recv 2 1 [] ∷ [])
unfolding move
then_from_1 = silent refl (silent refl (silent refl (act refl refl sends_to_2)))

rank_0_rounds : EndsText rounds (pos 3) 0 (Send 1 0 [] ∷ Recv 1 1 [] ∷ Send 2 0 [] ∷ Recv 2 1 [] ∷ [])
unfolding move
rank_0_rounds = silent refl (silent refl (act refl refl then_from_1))

-- the variable keeps its value behind the For
variable_kept : quietly (machine (ranks [] (one (for_each (fixed (pos 1)) (fixed (pos 2)) nothing))) (pos 2)) 3 (start (ranks [] (one (for_each (fixed (pos 1)) (fixed (pos 2)) nothing))) (pos 2) 0)
    ≡ record { seat = record { role = 0; index = pos 0 }; i = pos 3; todo = finished }
unfolding move
variable_kept = refl

-- ---- collectives

abbrev greatest : Program
greatest = ranks (label (Int32 1) ∷ label (Uint32 1) ∷ []) (more (allreduce 0 O.Max) (one (reduce 1 O.Sum (w (n+ (negsuc 0))))))

rank_0_joins : EndsText greatest (pos 2) 0 (Enter (Allreduce 0 Max) (4294967295 ∷ []) ∷ Leave (Allreduce 0 Max) (0 ∷ []) ∷ Enter (Reduce 1 Sum 1) (7 ∷ []) ∷ Leave (Reduce 1 Sum 1) [] ∷ [])
unfolding move
rank_0_joins = act refl refl (act refl refl (act refl refl (act refl refl (ended refl))))

abbrev by_rank : ℕ → ℕ → ℕ → List ℕ
by_rank a b zero = a ∷ []
by_rank a b (suc r) = b ∷ []

-- in two's complement 4294967295 is -1
signed_greatest : outcome greatest (pos 2) (Allreduce 0 Max) 0 (by_rank 4294967295 0) ≡ 0 ∷ []
signed_greatest = refl

-- the sum is taken modulo 2 ^ 32, and the root alone leaves with it
sum_at_root : outcome greatest (pos 2) (Reduce 1 Sum 1) 1 (by_rank 4294967295 3) ≡ 2 ∷ []
sum_at_root = refl

nothing_elsewhere : outcome greatest (pos 2) (Reduce 1 Sum 1) 0 (by_rank 4294967295 3) ≡ []
nothing_elsewhere = refl
