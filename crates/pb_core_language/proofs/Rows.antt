-- Worked protocols, by computation.
use Rattle.std.proofs.Common.{◌≡◌, ◌*◌, ℕ, ℤ, pos, negsuc, true, false, None, Some, List, [], ◌∷◌, ◌++◌, refl}
use Rattle.pb_affine.specs.declared.lin.Base.TheVariants.{Fixed, Param, Var}
use Rattle.pb_affine.specs.declared.lin.Lin.{Lin}
use Rattle.pb_text.specs.declared.place.Place.{Place}
use Rattle.pb_text.specs.declared.action.Action.TheVariants.{Choose, Run, Send, Recv, Enter, Leave}
use Rattle.pb_text.specs.declared.action.Joint.TheVariants.{Labelled}
use Rattle.pb_syntax.specs.declared.core_label.CoreLabel.{CoreLabel}
use Rattle.pb_syntax.specs.declared.tree.Op.TheVariants.{Sum, Max}
use Rattle.pb_syntax.specs.declared.tree.Payload.{Payload}
use Rattle.pb_syntax.specs.declared.tree.Payload.TheVariants.{Unit as Signal, Int32, Uint32}
use Rattle.pb_world.specs.Actions.{AnswerTable}
use Rattle.pb_world.specs.Actions as W
use Rattle.pb_world.specs.Log.{log_of}
use Rattle.pb_core_language.specs.declared.protocol.CoreRole.{CoreRole}
use Rattle.pb_core_language.specs.declared.tree.CoreEnd.{CoreEnd}
use Rattle.pb_core_language.specs.Ranks.{Seat, size, total}
use Rattle.pb_core_language.specs.Tree.{Mark, message, foreach, loop, again, choice, run, reduce, allreduce, BlockTree, nothing, more, no_branch, branch}
use Rattle.pb_core_language.specs.declared.tree.Bounds.{Bounds}
use Rattle.pb_core_language.specs.Plain.{Protocol}
use Rattle.pb_core_language.specs.Flat.{takes_part}
use Rattle.pb_core_language.specs.Run.{seq, is_over}
use Rattle.pb_core_language.specs.Collectives.{setting_of, combined, combine}
use Rattle.pb_core_language.specs.Outcomes.{firsts, receives, nothing_first}
use Rattle.pb_core_language.specs.Rules.{Breach, breaches, flat_at, somebody}

-- ---- short forms

abbrev fixed : ℤ → Lin
fixed c = record { base = Fixed; off = c }

abbrev n+ : ℤ → Lin
n+ c = record { base = Param; off = c }

abbrev i+ : ℤ → Lin
i+ c = record { base = Var; off = c }

abbrev at : ℕ → ℕ → Place
at line col = record { line = line; col = col }

-- an end at role 0, with its place in a line
abbrev w : ℕ → Lin → CoreEnd
w col l = record { role = 0; at = l; place = at 3 col }

abbrev mark : ℕ → ℕ → Mark
mark k col = record { number = k; place = at 3 col }

abbrev bounds : Lin → Lin → Bounds
bounds a b = record { low = a; high = b }

-- `W[0..N-1]`
abbrev one_role : List CoreRole
one_role = record { name = 87 ∷ []; place = at 2 24; low = fixed (pos 0); high = n+ (negsuc 0) } ∷ []

abbrev label : Payload → CoreLabel
label p = record { name = 65 ∷ []; payload = p }

abbrev protocol : List CoreLabel → BlockTree → Protocol
protocol labels body = record {
  name = 80 ∷ [];
  range = record { low = 2; high = None };
  roles = one_role;
  labels = labels;
  kernels = [];
  body = record { mark = mark 0 1; block = body };
  statements = 0;
  blocks = 0;
}

abbrev no_answers : AnswerTable
no_answers r = record { branches = []; words = [] }

abbrev breach : ℕ → ℕ → ℕ → ℤ → Breach
breach rule number col index = record { rule = rule; mark = mark number col; at = Some (record { role = 0; index = index }) }

-- ---- a ring

abbrev ring : Protocol
ring = protocol (label Signal ∷ [])
    (more (mark 0 3) (foreach (bounds (fixed (pos 0)) (n+ (negsuc 1))) (mark 1 3) (more (mark 1 3) (message 0 (w 12 (i+ (pos 0))) (w 27 (i+ (pos 1)))) nothing))
    (more (mark 2 3) (message 0 (w 12 (n+ (negsuc 0))) (w 27 (fixed (pos 0)))) nothing))

ring_at_3 : log_of (seq (setting_of ring (pos 3)) (flat_at ring (pos 3)) no_answers 10)
    ≡ Send 0 1 0 [] ∷ Recv 1 0 0 [] ∷ Send 1 2 0 [] ∷ Recv 2 1 0 [] ∷ Send 2 0 0 [] ∷ Recv 0 2 0 [] ∷ []
ring_at_3 = refl

ring_over : is_over (setting_of ring (pos 3)) (flat_at ring (pos 3)) no_answers 4 ≡ true
ring_over = refl

ring_at_5 : log_of (seq (setting_of ring (pos 5)) (flat_at ring (pos 5)) no_answers 10)
    ≡ Send 0 1 0 [] ∷ Recv 1 0 0 [] ∷ Send 1 2 0 [] ∷ Recv 2 1 0 [] ∷ Send 2 3 0 [] ∷ Recv 3 2 0 [] ∷ Send 3 4 0 [] ∷ Recv 4 3 0 [] ∷ Send 4 0 0 [] ∷ Recv 0 4 0 [] ∷ []
ring_at_5 = refl

ring_keeps : breaches ring (pos 5) ≡ []
ring_keeps = refl

ring_size : size one_role ≡ record { a = pos 1; b = pos 0 }
ring_size = refl

-- a ring that isn't closed: at N = 2 the receiver of the last message is out of range
abbrev open_ring : Protocol
open_ring = protocol (label Signal ∷ [])
    (more (mark 0 3) (foreach (bounds (fixed (pos 0)) (n+ (negsuc 0))) (mark 1 3) (more (mark 1 3) (message 0 (w 12 (i+ (pos 0))) (w 27 (i+ (pos 1)))) nothing)) nothing)

open_ring_breaks : breaches open_ring (pos 2) ≡ breach 7 3 27 (pos 2) ∷ []
open_ring_breaks = refl

-- a message from W[0] to W[N-1] at N = 1
abbrev one_message : Protocol
one_message = protocol (label Signal ∷ []) (more (mark 0 3) (message 0 (w 12 (fixed (pos 0))) (w 20 (n+ (negsuc 0)))) nothing)

one_message_at_1 : breaches one_message (pos 1) ≡ breach 8 0 3 (pos 0) ∷ []
one_message_at_1 = refl

one_message_at_2 : breaches one_message (pos 2) ≡ []
one_message_at_2 = refl

-- ---- a loop with a choice

abbrev turns : Protocol
turns = protocol (label Signal ∷ label Signal ∷ label Signal ∷ [])
    (more (mark 0 3) (loop 0 (mark 1 9) (more (mark 1 11) (choice 0 (w 20 (fixed (pos 0)))
    (branch (mark 2 25) (more (mark 2 27) (message 0 (w 40 (fixed (pos 0))) (w 48 (fixed (pos 1)))) (more (mark 3 54) (again 0) nothing))
    (branch (mark 3 70) (more (mark 4 72) (message 1 (w 80 (fixed (pos 0))) (w 88 (fixed (pos 1)))) nothing) no_branch))) nothing))
    (more (mark 5 99) (message 2 (w 108 (fixed (pos 2))) (w 116 (fixed (pos 3)))) nothing))

-- the table has one answer, to go on; then it is used up, and the branch that can end is taken
turns_at_4 : log_of (seq (setting_of turns (pos 4)) (flat_at turns (pos 4)) (λ r. record { branches = 0 ∷ []; words = [] }) 20)
    ≡ Choose 0 0 0 ∷ Send 0 1 0 [] ∷ Recv 1 0 0 [] ∷ Choose 0 0 1 ∷ Send 0 1 1 [] ∷ Recv 1 0 1 [] ∷ Send 2 3 2 [] ∷ Recv 3 2 2 [] ∷ []
turns_at_4 = refl

-- a branch number that is too large counts as not there, and is used up
turns_too_large : log_of (seq (setting_of turns (pos 4)) (flat_at turns (pos 4)) (λ r. record { branches = 2 ∷ 0 ∷ []; words = [] }) 20)
    ≡ Choose 0 0 1 ∷ Send 0 1 1 [] ∷ Recv 1 0 1 [] ∷ Send 2 3 2 [] ∷ Recv 3 2 2 [] ∷ []
turns_too_large = refl

turns_keeps : breaches turns (pos 4) ≡ []
turns_keeps = refl

-- ---- collectives

abbrev sum_row : Protocol
sum_row = protocol (label (Uint32 1) ∷ []) (more (mark 0 3) (reduce 0 Sum (w 30 (fixed (pos 0)))) nothing)

sum_at_3 : log_of (seq (setting_of sum_row (pos 3)) (flat_at sum_row (pos 3)) (λ r. record { branches = []; words = (10 * r ∷ []) ∷ [] }) 1)
    ≡ Enter 0 (Labelled 0) (0 ∷ []) ∷ Enter 1 (Labelled 0) (10 ∷ []) ∷ Enter 2 (Labelled 0) (20 ∷ []) ∷ Leave 0 (Labelled 0) (30 ∷ []) ∷ Leave 1 (Labelled 0) [] ∷ Leave 2 (Labelled 0) [] ∷ []
sum_at_3 = refl

-- words of another length count as not there
sum_of_wrong_length : log_of (seq (setting_of sum_row (pos 2)) (flat_at sum_row (pos 2)) (λ r. record { branches = []; words = (7 ∷ 7 ∷ []) ∷ [] }) 1)
    ≡ Enter 0 (Labelled 0) (0 ∷ []) ∷ Enter 1 (Labelled 0) (0 ∷ []) ∷ Leave 0 (Labelled 0) (0 ∷ []) ∷ Leave 1 (Labelled 0) [] ∷ []
sum_of_wrong_length = refl

-- a sum wraps; the greatest of signed words: -1 is below 0
sum_wraps : combine (Uint32 1) W.Sum 4294967295 2 ≡ 1
sum_wraps = refl

signed_max : combine (Int32 1) W.Max 4294967295 0 ≡ 0
signed_max = refl

unsigned_max : combine (Uint32 1) W.Max 4294967295 0 ≡ 4294967295
unsigned_max = refl

-- Jacobi's method, with two words for each side
abbrev jacobi : Protocol
jacobi = protocol (label (Int32 2) ∷ label (Int32 2) ∷ label (Int32 1) ∷ label Signal ∷ label Signal ∷ [])
    (more (mark 0 1) (loop 0 (mark 1 1)
    (more (mark 1 2) (foreach (bounds (fixed (pos 0)) (n+ (negsuc 1))) (mark 2 2) (more (mark 2 2) (message 0 (w 3 (i+ (pos 0))) (w 4 (i+ (pos 1)))) nothing))
    (more (mark 3 5) (foreach (bounds (fixed (pos 1)) (n+ (negsuc 0))) (mark 3 5) (more (mark 4 5) (message 1 (w 6 (i+ (pos 0))) (w 7 (i+ (negsuc 0)))) nothing))
    (more (mark 5 8) (foreach (bounds (fixed (pos 0)) (n+ (negsuc 0))) (mark 4 9) (more (mark 6 9) (run 0 (w 10 (i+ (pos 0)))) nothing))
    (more (mark 7 11) (allreduce 2 Max)
    (more (mark 8 12) (choice 1 (w 13 (fixed (pos 0)))
    (branch (mark 5 14) (more (mark 9 15) (foreach (bounds (fixed (pos 1)) (n+ (negsuc 0))) (mark 6 15) (more (mark 10 15) (message 3 (w 16 (fixed (pos 0))) (w 17 (i+ (pos 0)))) nothing)) (more (mark 11 18) (again 0) nothing))
    (branch (mark 7 19) (more (mark 12 20) (foreach (bounds (fixed (pos 1)) (n+ (negsuc 0))) (mark 8 20) (more (mark 13 20) (message 4 (w 21 (fixed (pos 0))) (w 22 (i+ (pos 0)))) nothing)) nothing) no_branch))) nothing)))))) nothing)

-- without answers the words are zeros, and the branch is the one that can end
jacobi_at_3 : log_of (seq (setting_of jacobi (pos 3)) (flat_at jacobi (pos 3)) no_answers 9)
    ≡ Send 0 1 0 (0 ∷ 0 ∷ []) ∷ Recv 1 0 0 (0 ∷ 0 ∷ []) ∷ Send 1 2 0 (0 ∷ 0 ∷ []) ∷ Recv 2 1 0 (0 ∷ 0 ∷ [])
    ∷ Send 1 0 1 (0 ∷ 0 ∷ []) ∷ Recv 0 1 1 (0 ∷ 0 ∷ []) ∷ Send 2 1 1 (0 ∷ 0 ∷ []) ∷ Recv 1 2 1 (0 ∷ 0 ∷ [])
    ∷ Run 0 0 ∷ Run 1 0 ∷ Run 2 0
    ∷ Enter 0 (Labelled 2) (0 ∷ []) ∷ Enter 1 (Labelled 2) (0 ∷ []) ∷ Enter 2 (Labelled 2) (0 ∷ []) ∷ Leave 0 (Labelled 2) (0 ∷ []) ∷ Leave 1 (Labelled 2) (0 ∷ []) ∷ Leave 2 (Labelled 2) (0 ∷ []) ∷ []
jacobi_at_3 = refl

jacobi_over : is_over (setting_of jacobi (pos 3)) (flat_at jacobi (pos 3)) no_answers 20 ≡ true
jacobi_over = refl

jacobi_keeps : breaches jacobi (pos 3) ≡ []
jacobi_keeps = refl

-- ---- choices that break a rule

abbrev first_to : Lin → ℕ → BlockTree
first_to high label = more (mark 1 30) (foreach (bounds (fixed (pos 1)) high) (mark 2 30) (more (mark 2 30) (message label (w 31 (fixed (pos 0))) (w 32 (i+ (pos 0)))) nothing)) nothing

abbrev two : BlockTree → BlockTree → Protocol
two a b = protocol (label Signal ∷ label Signal ∷ []) (more (mark 0 3) (choice 0 (w 15 (fixed (pos 0))) (branch (mark 1 20) a (branch (mark 3 40) b no_branch))) nothing)

-- at N = 5 rank 4 finds a receive in the first branch and nothing in the second
left_out : breaches (two (first_to (n+ (negsuc 0)) 0) (first_to (fixed (pos 3)) 1)) (pos 5) ≡ breach 10 3 40 (pos 4) ∷ []
left_out = refl

left_out_at_4 : breaches (two (first_to (n+ (negsuc 0)) 0) (first_to (fixed (pos 3)) 1)) (pos 4) ≡ []
left_out_at_4 = refl

-- the same label in both
same_label : breaches (two (first_to (n+ (negsuc 0)) 0) (first_to (n+ (negsuc 0)) 0)) (pos 2) ≡ breach 12 3 40 (pos 1) ∷ []
same_label = refl

-- W[2] is told by W[0] in one branch and by W[1] in the other
abbrev tell : ℕ → ℤ → ℤ → BlockTree → BlockTree
tell l a b rest = more (mark 1 50) (message l (w 51 (fixed a)) (w 52 (fixed b))) rest

two_sources : breaches (two (tell 0 (pos 0) (pos 2) (tell 1 (pos 0) (pos 1) nothing)) (tell 2 (pos 0) (pos 1) (tell 3 (pos 1) (pos 2) nothing))) (pos 3) ≡ breach 11 3 40 (pos 2) ∷ []
two_sources = refl

-- told by a neighbour in each branch: kept
abbrev pass_on : ℕ → BlockTree
pass_on l = more (mark 1 60) (foreach (bounds (fixed (pos 0)) (n+ (negsuc 1))) (mark 2 60) (more (mark 2 60) (message l (w 61 (i+ (pos 0))) (w 62 (i+ (pos 1)))) nothing)) nothing

relayed : breaches (two (pass_on 0) (pass_on 1)) (pos 3) ≡ []
relayed = refl

-- a loop that comes round with nobody in it, at N = 3
abbrev lonely_loop : Protocol
lonely_loop = protocol (label Signal ∷ [])
    (more (mark 0 3) (loop 0 (mark 1 9) (more (mark 1 11) (foreach (bounds (fixed (pos 1)) (n+ (negsuc 2))) (mark 2 30) (more (mark 2 31) (message 0 (w 32 (i+ (pos 0))) (w 33 (i+ (pos 1)))) nothing)) (more (mark 3 50) (again 0) nothing))) nothing)

lonely_at_3 : breaches lonely_loop (pos 3) ≡ record { rule = 9; mark = mark 0 3; at = None } ∷ []
lonely_at_3 = refl

lonely_at_4 : breaches lonely_loop (pos 4) ≡ []
lonely_at_4 = refl

-- ---- who takes part in a continue

-- a loop in a loop, each with a continue of the outer one: W[2] takes part in the inner loop by `continue` of the outer
-- one alone, and the inner loop's own continue isn't a reason for W[3]
abbrev nested : Protocol
nested = protocol (label Signal ∷ label Signal ∷ [])
    (more (mark 0 1) (loop 0 (mark 1 1)
    (more (mark 1 2) (message 0 (w 3 (fixed (pos 0))) (w 4 (fixed (pos 2))))
    (more (mark 2 5) (loop 1 (mark 2 5) (more (mark 3 6) (choice 0 (w 7 (fixed (pos 0)))
    (branch (mark 3 8) (more (mark 4 9) (message 1 (w 10 (fixed (pos 0))) (w 11 (fixed (pos 1)))) (more (mark 5 12) (again 1) nothing))
    (branch (mark 4 13) (more (mark 6 14) (again 0) nothing) no_branch))) nothing)) nothing))) nothing)

nested_rank_2 : takes_part [] 2 (flat_at nested (pos 4)) ≡ true
nested_rank_2 = refl

nested_rank_3 : takes_part [] 3 (flat_at nested (pos 4)) ≡ false
nested_rank_3 = refl

-- inside the inner loop: W[2] finds the continue of the outer loop in the second branch, and nothing in the first
nested_breaks : breaches nested (pos 4) ≡ breach 10 4 13 (pos 1) ∷ breach 10 3 8 (pos 2) ∷ breach 10 4 13 (pos 2) ∷ []
nested_breaks = refl
