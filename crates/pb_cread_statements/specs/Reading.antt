-- Reading the statements of main line by line: what was read of the statements that are still open, and what may come next.
use Rattle.std.specs.Prelude.{ℕ, suc, ◌+◌, ◌^◌, nat_eq, nat_lt, Bool, true, ◌&&◌, cond, List, [], ◌∷◌, ◌++◌, length, Option, Some, None}
use Rattle.std.specs.List.{list_any}
use Rattle.pb_affine.specs.declared.lin.Lin.{Lin}
use Rattle.pb_affine.specs.declared.guard.Guard.{Guard}
use Rattle.pb_syntax.specs.declared.tree.Op.{Op}
use Rattle.pb_local.specs.declared.stmt.Peer.{Peer}
use Rattle.pb_local.specs.declared.stmt.Test.{Test}
use Rattle.pb_local.specs.declared.stmt.Relay.{Relay}
use Rattle.pb_local.specs.Layout.{is_same_lin}
use Rattle.pb_local.specs.Tree.{Code, when, for_each, own, loop, again, choice, send, recv, run, barrier, broadcast, reduce, allreduce, nothing, codes_of, parts_of, Program}
use Rattle.pb_ctree.specs.Lines.{Item, close, else_open, if_open, else_if_open, for_open, own_is, loop_open, goto, makes, root_makes, takes, root_takes, mpi_send, mpi_recv, mpi_barrier, mpi_bcast, mpi_reduce, mpi_allreduce, calls, chooses, probe, test_open, else_test_open, picks, aborts, pick_open, else_pick_open}
use Rattle.pb_ctree.specs.Rules.{is_offset, are_guards, is_peer, is_label, is_wordy, goes_with, computes, can_choose, is_chooser, comes_after, are_below}
use Rattle.pb_ctree.specs.Small.{outgoing, incoming, payload_of}

-- ---- states

-- a choice up to its branches
pub record Told : Type 0 where
  pub who : Guard
  pub kernel : ℕ
  pub relays : List Relay
  pub from : Peer
  pub tests : List Test

abbrev pub told : Guard → ℕ → List Relay → Peer → List Test → Told
told who kernel relays from tests = record { who = who; kernel = kernel; relays = relays; from = from; tests = tests }

abbrev pub chosen_of : Told → List (List Code) → Code
chosen_of t parts = choice t.who t.kernel t.relays t.from t.tests (parts_of parts)

-- what an open brace belongs to
pub data Kind : Type 0 where
  in_first : (guards : List Guard) → Kind
  in_other : (guards : List Guard) (first : List Code) → Kind
  in_for : (low high : Lin) → Kind
  in_loop_of : (id : ℕ) → Kind
  -- a branch behind these, and not the last
  in_branch : (t : Told) (parts : List (List Code)) → Kind
  -- the last branch, behind these and one more
  in_last : (t : Told) (parts : List (List Code)) (previous : List Code) → Kind

-- an open brace, and the statements before it
pub record Frame : Type 0 where
  pub kind : Kind
  pub outer : List Code

abbrev pub frame : Kind → List Code → Frame
frame kind outer = record { kind = kind; outer = outer }

-- what was read of a statement whose next line is none of its inner statements'
pub data Wanted : Type 0 where
  -- a statement, or the end of the part
  statement : Wanted
  made : (label : ℕ) → Wanted
  rooted : (label : ℕ) (root : Peer) → Wanted
  cast : (label : ℕ) (root : Peer) → Wanted
  reduced : (label : ℕ) (op : Op) (root : Peer) → Wanted
  allreduced : (label : ℕ) (op : Op) → Wanted
  received : (label : ℕ) (from : Peer) → Wanted
  -- the chooser's call
  chosen : (who : Guard) (kernel : ℕ) → Wanted
  -- and the line behind it, for all others
  asked : (who : Guard) (kernel : ℕ) → Wanted
  relaying : (who : Guard) (kernel : ℕ) (relays : List Relay) (guards : List Guard) → Wanted
  relayed : (who : Guard) (kernel : ℕ) (relays : List Relay) → Wanted
  sourced : (who : Guard) (kernel : ℕ) (relays : List Relay) → Wanted
  probed : (who : Guard) (kernel : ℕ) (relays : List Relay) (from : Peer) → Wanted
  untested : (who : Guard) (kernel : ℕ) (relays : List Relay) (from : Peer) → Wanted
  testing : (t : Told) (label : ℕ) (guards : List Guard) → Wanted
  tested : (t : Told) → Wanted
  aborting : (t : Told) → Wanted
  aborted : (t : Told) → Wanted
  all_tested : (t : Told) → Wanted
  answered : (t : Told) → Wanted

pub record State : Type 0 where
  pub wanted : Wanted
  -- the statements of the part that is read
  pub done : List Code
  pub stack : List Frame
  -- how many loops, and how many statements, have begun
  pub loops : ℕ
  pub begun : ℕ

abbrev pub state : Wanted → List Code → List Frame → ℕ → ℕ → State
state wanted done stack loops begun = record { wanted = wanted; done = done; stack = stack; loops = loops; begun = begun }

abbrev pub nothing_read : State
nothing_read = state statement [] [] 0 0

-- ---- where a line stands

-- the depth of the statements that are read
abbrev pub depth_of : List Frame → ℕ
depth_of [] = 1
depth_of (f ∷ fs) = depth_of fs + 1

-- the depth of the line that closes the last brace
abbrev pub closing_depth : List Frame → ℕ
closing_depth [] = 0
closing_depth (f ∷ fs) = depth_of fs

abbrev pub free_place : List Frame → Item → ℕ
free_place stack close = closing_depth stack
free_place stack else_open = closing_depth stack
free_place stack (else_pick_open branch) = closing_depth stack
free_place stack other = depth_of stack

abbrev pub place_at : List Frame → Wanted → Item → ℕ
place_at stack statement item = free_place stack item
place_at stack (made label) item = depth_of stack
place_at stack (rooted label root) item = depth_of stack
place_at stack (cast label root) item = depth_of stack
place_at stack (reduced label op root) item = depth_of stack
place_at stack (allreduced label op) item = depth_of stack
place_at stack (received label from) item = depth_of stack
place_at stack (chosen who kernel) item = depth_of stack
place_at stack (asked who kernel) item = depth_of stack + 1
place_at stack (relaying who kernel relays guards) item = depth_of stack + 1 + 1
place_at stack (relayed who kernel relays) item = depth_of stack + 1
place_at stack (sourced who kernel relays) item = depth_of stack + 1 + 1
place_at stack (probed who kernel relays from) item = depth_of stack + 1
place_at stack (untested who kernel relays from) item = depth_of stack + 1
place_at stack (testing t label guards) item = depth_of stack + 1 + 1
place_at stack (tested t) item = depth_of stack + 1
place_at stack (aborting t) item = depth_of stack + 1 + 1
place_at stack (aborted t) item = depth_of stack + 1
place_at stack (all_tested t) item = depth_of stack
place_at stack (answered t) item = depth_of stack

abbrev pub place : State → Item → ℕ
place s item = place_at s.stack s.wanted item

-- braces that are open within a statement whose lines are read
abbrev pub inside : Wanted → ℕ
inside statement = 0
inside (made label) = 0
inside (rooted label root) = 0
inside (cast label root) = 0
inside (reduced label op root) = 0
inside (allreduced label op) = 0
inside (received label from) = 0
inside (chosen who kernel) = 1
inside (asked who kernel) = 1
inside (relaying who kernel relays guards) = 2
inside (relayed who kernel relays) = 2
inside (sourced who kernel relays) = 2
inside (probed who kernel relays from) = 2
inside (untested who kernel relays from) = 1
inside (testing t label guards) = 2
inside (tested t) = 2
inside (aborting t) = 2
inside (aborted t) = 2
inside (all_tested t) = 1
inside (answered t) = 0

-- the open braces, main's own with them
abbrev pub open_braces : State → ℕ
open_braces s = depth_of s.stack + inside s.wanted

-- ---- structure: the state behind a line

-- a statement whose other lines follow
abbrev pub begin : State → Wanted → State
begin s w = state w s.done s.stack s.loops (s.begun + 1)

abbrev pub later : State → Wanted → State
later s w = state w s.done s.stack s.loops s.begun

-- a statement of one line, and the last line of a statement
abbrev pub whole : State → Code → State
whole s c = state statement (s.done ++ c ∷ []) s.stack s.loops (s.begun + 1)

abbrev pub ended : State → Code → State
ended s c = state statement (s.done ++ c ∷ []) s.stack s.loops s.begun

-- a statement that holds others
abbrev pub entered : State → Kind → ℕ → State
entered s kind loops = state statement [] (frame kind s.done ∷ s.stack) loops (s.begun + 1)

-- from one part of a statement to the next, and out of the last
abbrev pub turned : State → Kind → List Code → List Frame → State
turned s kind outer rest = state statement [] (frame kind outer ∷ rest) s.loops s.begun

abbrev pub left : State → Code → List Code → List Frame → State
left s c outer rest = state statement (outer ++ c ∷ []) rest s.loops s.begun

abbrev pub other_closed : State → List Guard → List Code → List Code → List Frame → List Code → Option State
other_closed s guards first outer rest [] = None
other_closed s guards first outer rest (c ∷ cs) = Some (left s (when guards (codes_of first) (codes_of (c ∷ cs))) outer rest)

abbrev pub close_in : State → Kind → List Code → List Frame → Option State
close_in s (in_first guards) outer rest = Some (left s (when guards (codes_of s.done) nothing) outer rest)
close_in s (in_other guards first) outer rest = other_closed s guards first outer rest s.done
close_in s (in_for low high) outer rest = Some (left s (for_each low high (codes_of s.done)) outer rest)
close_in s (in_loop_of id) outer rest = Some (left s (loop id (codes_of s.done)) outer rest)
close_in s (in_branch t parts) outer rest = None
close_in s (in_last t parts previous) outer rest = Some (left s (chosen_of t ((parts ++ previous ∷ []) ++ s.done ∷ [])) outer rest)

abbrev pub close_step : State → List Frame → Option State
close_step s [] = None
close_step s (f ∷ fs) = close_in s f.kind f.outer fs

abbrev pub else_in : State → Kind → List Code → List Frame → Option State
else_in s (in_first guards) outer rest = Some (turned s (in_other guards s.done) outer rest)
else_in s (in_branch t parts) outer rest = Some (turned s (in_last t parts s.done) outer rest)
else_in s other outer rest = None

abbrev pub else_step : State → List Frame → Option State
else_step s [] = None
else_step s (f ∷ fs) = else_in s f.kind f.outer fs

abbrev pub branch_in : State → ℕ → Kind → List Code → List Frame → Option State
branch_in s branch (in_branch t parts) outer rest = cond (nat_eq branch (suc (length parts))) (Some (turned s (in_branch t (parts ++ s.done ∷ [])) outer rest)) None
branch_in s branch other outer rest = None

abbrev pub branch_step : State → ℕ → List Frame → Option State
branch_step s branch [] = None
branch_step s branch (f ∷ fs) = branch_in s branch f.kind f.outer fs

-- an if of one guard, with nothing in it yet, becomes a choice
abbrev pub choose_in : State → ℕ → Kind → List Code → List Code → List Frame → Option State
choose_in s kernel (in_first (who ∷ [])) [] outer rest = Some (state (chosen who kernel) outer rest s.loops s.begun)
choose_in s kernel other done outer rest = None

abbrev pub choose_step : State → ℕ → List Frame → Option State
choose_step s kernel [] = None
choose_step s kernel (f ∷ fs) = choose_in s kernel f.kind s.done f.outer fs

-- a line where no statement is half spelled
abbrev pub free_step : Program → State → Item → Option State
free_step p s (if_open guards) = Some (entered s (in_first guards) s.loops)
free_step p s (for_open low high) = Some (entered s (in_for low high) s.loops)
free_step p s (loop_open id) = Some (entered s (in_loop_of id) (s.loops + 1))
free_step p s close = close_step s s.stack
free_step p s else_open = else_step s s.stack
free_step p s (else_pick_open branch) = branch_step s branch s.stack
free_step p s (chooses kernel) = choose_step s kernel s.stack
free_step p s (own_is off) = Some (whole s (own off))
free_step p s (goto id) = Some (whole s (again id))
free_step p s (makes label) = cond (is_wordy p label) (Some (begin s (made label))) None
free_step p s (root_makes root label) = Some (begin s (rooted label root))
free_step p s (mpi_send label to) = cond (is_wordy p label) None (Some (whole s (send label to)))
free_step p s (mpi_recv label from) = cond (is_wordy p label) (Some (begin s (received label from))) (Some (whole s (recv label from)))
free_step p s mpi_barrier = Some (whole s barrier)
free_step p s (calls kernel) = Some (whole s (run kernel))
free_step p s other = None

abbrev pub is_same_peer : Peer → Peer → Bool
is_same_peer a b = nat_eq a.role b.role && is_same_lin a.at b.at

-- the lines of a message or a collective behind its first
abbrev pub made_step : State → ℕ → Item → Option State
made_step s same (mpi_send label to) = cond (nat_eq label same) (Some (ended s (send label to))) None
made_step s same (mpi_reduce label op root) = cond (nat_eq label same) (Some (later s (reduced label op root))) None
made_step s same (mpi_allreduce label op) = cond (nat_eq label same) (Some (later s (allreduced label op))) None
made_step s same other = None

abbrev pub rooted_step : State → ℕ → Peer → Item → Option State
rooted_step s same root (mpi_bcast label at) = cond (nat_eq label same && is_same_peer at root) (Some (later s (cast label at))) None
rooted_step s same root other = None

-- the words are taken from this side's array, and the statement is whole
abbrev pub take_out_step : State → ℕ → Code → Item → Option State
take_out_step s same c (takes label outgoing) = cond (nat_eq label same) (Some (ended s c)) None
take_out_step s same c other = None

abbrev pub take_in_step : State → ℕ → Code → Item → Option State
take_in_step s same c (takes label incoming) = cond (nat_eq label same) (Some (ended s c)) None
take_in_step s same c other = None

abbrev pub root_take_step : State → ℕ → Op → Peer → Item → Option State
root_take_step s same op root (root_takes at label) = cond (nat_eq label same && is_same_peer at root) (Some (ended s (reduce label op at))) None
root_take_step s same op root other = None

-- nobody asks for the branch: the source is the chooser
abbrev pub untold : State → Guard → ℕ → Option Lin → Option State
untold s who kernel None = None
untold s who kernel (Some low) = Some (later s (answered (told who kernel [] (record { role = who.role; at = low }) [])))

abbrev pub chosen_step : State → Guard → ℕ → Item → Option State
chosen_step s who kernel close = untold s who kernel who.low
chosen_step s who kernel else_open = Some (later s (asked who kernel))
chosen_step s who kernel other = None

abbrev pub asked_step : State → Guard → ℕ → Item → Option State
asked_step s who kernel (probe from) = Some (later s (untested who kernel [] from))
asked_step s who kernel (if_open guards) = Some (later s (relaying who kernel [] guards))
asked_step s who kernel other = None

abbrev pub relaying_step : State → Guard → ℕ → List Relay → List Guard → Item → Option State
relaying_step s who kernel relays guards (probe from) = Some (later s (relayed who kernel (relays ++ record { guards = guards; from = from } ∷ [])))
relaying_step s who kernel relays guards other = None

abbrev pub relayed_step : State → Guard → ℕ → List Relay → Item → Option State
relayed_step s who kernel relays (else_if_open guards) = Some (later s (relaying who kernel relays guards))
relayed_step s who kernel relays else_open = Some (later s (sourced who kernel relays))
relayed_step s who kernel relays other = None

abbrev pub sourced_step : State → Guard → ℕ → List Relay → Item → Option State
sourced_step s who kernel relays (probe from) = Some (later s (probed who kernel relays from))
sourced_step s who kernel relays other = None

abbrev pub probed_step : State → Guard → ℕ → List Relay → Peer → Item → Option State
probed_step s who kernel relays from close = Some (later s (untested who kernel relays from))
probed_step s who kernel relays from other = None

abbrev pub untested_step : State → Told → Item → Option State
untested_step s t (test_open label guards) = Some (later s (testing t label guards))
untested_step s t other = None

abbrev pub with_test : Told → Test → Told
with_test t test = told t.who t.kernel t.relays t.from (t.tests ++ test ∷ [])

abbrev pub testing_step : State → Told → ℕ → List Guard → Item → Option State
testing_step s t label guards (picks branch) = Some (later s (tested (with_test t (record { branch = branch; label = label; guards = guards }))))
testing_step s t label guards other = None

abbrev pub tested_step : State → Told → Item → Option State
tested_step s t (else_test_open label guards) = Some (later s (testing t label guards))
tested_step s t else_open = Some (later s (aborting t))
tested_step s t other = None

abbrev pub aborting_step : State → Told → Item → Option State
aborting_step s t aborts = Some (later s (aborted t))
aborting_step s t other = None

abbrev pub aborted_step : State → Told → Item → Option State
aborted_step s t close = Some (later s (all_tested t))
aborted_step s t other = None

abbrev pub all_tested_step : State → Told → Item → Option State
all_tested_step s t close = Some (later s (answered t))
all_tested_step s t other = None

abbrev pub answered_step : State → Told → Item → Option State
answered_step s t (pick_open branch) = cond (nat_eq branch 0) (Some (turned s (in_branch t []) s.done s.stack)) None
answered_step s t other = None

abbrev pub step_at : Program → State → Wanted → Item → Option State
step_at p s statement item = free_step p s item
step_at p s (made label) item = made_step s label item
step_at p s (rooted label root) item = rooted_step s label root item
step_at p s (cast label root) item = take_out_step s label (broadcast label root) item
step_at p s (reduced label op root) item = root_take_step s label op root item
step_at p s (allreduced label op) item = take_in_step s label (allreduce label op) item
step_at p s (received label from) item = take_in_step s label (recv label from) item
step_at p s (chosen who kernel) item = chosen_step s who kernel item
step_at p s (asked who kernel) item = asked_step s who kernel item
step_at p s (relaying who kernel relays guards) item = relaying_step s who kernel relays guards item
step_at p s (relayed who kernel relays) item = relayed_step s who kernel relays item
step_at p s (sourced who kernel relays) item = sourced_step s who kernel relays item
step_at p s (probed who kernel relays from) item = probed_step s who kernel relays from item
step_at p s (untested who kernel relays from) item = untested_step s (told who kernel relays from []) item
step_at p s (testing t label guards) item = testing_step s t label guards item
step_at p s (tested t) item = tested_step s t item
step_at p s (aborting t) item = aborting_step s t item
step_at p s (aborted t) item = aborted_step s t item
step_at p s (all_tested t) item = all_tested_step s t item
step_at p s (answered t) item = answered_step s t item

abbrev pub step : Program → State → Item → Option State
step p s item = step_at p s s.wanted item

-- ---- the rule of a line

-- the loops around
abbrev pub ids_of : Kind → List ℕ → List ℕ
ids_of (in_first guards) ids = ids
ids_of (in_other guards first) ids = ids
ids_of (in_for low high) ids = ids
ids_of (in_loop_of id) ids = id ∷ ids
ids_of (in_branch t parts) ids = ids
ids_of (in_last t parts previous) ids = ids

abbrev pub around : List Frame → List ℕ
around [] = []
around (f ∷ fs) = ids_of f.kind (around fs)

-- the last branch: there are as many as the tests name, and at most 64
abbrev pub last_rule : List Frame → Bool
last_rule [] = true
last_rule (f ∷ fs) = in_kind f.kind where
  in_kind : Kind → Bool
  in_kind (in_branch t parts) = are_below t.tests (suc (length parts) + 1) && nat_lt (suc (length parts)) 64
  in_kind other = true

abbrev pub chooser_rule : Program → ℕ → List Frame → Bool
chooser_rule p kernel [] = true
chooser_rule p kernel (f ∷ fs) = in_kind f.kind where
  in_kind : Kind → Bool
  in_kind (in_first (who ∷ [])) = is_chooser who && can_choose p kernel
  in_kind other = true

abbrev pub free_rule : Program → State → Item → Bool
free_rule p s else_open = last_rule s.stack
free_rule p s (chooses kernel) = chooser_rule p kernel s.stack
free_rule p s (if_open guards) = are_guards p guards
free_rule p s (for_open low high) = is_offset low.off && is_offset high.off
free_rule p s (own_is off) = is_offset off
free_rule p s (loop_open id) = nat_eq id s.loops
free_rule p s (goto id) = list_any (nat_eq id) (around s.stack)
free_rule p s (makes label) = is_label p label
free_rule p s (root_makes root label) = is_label p label && is_wordy p label && is_peer p root
free_rule p s (mpi_send label to) = is_label p label && is_peer p to
free_rule p s (mpi_recv label from) = is_label p label && is_peer p from
free_rule p s (calls kernel) = computes p kernel
free_rule p s (else_pick_open branch) = nat_lt branch 64
free_rule p s other = true

abbrev pub made_rule : Program → Item → Bool
made_rule p (mpi_send label to) = is_label p label && is_peer p to
made_rule p (mpi_reduce label op root) = goes_with op (payload_of p label) && is_peer p root
made_rule p (mpi_allreduce label op) = goes_with op (payload_of p label)
made_rule p other = true

-- what tells the branch
abbrev pub told_rule : Program → Item → Bool
told_rule p (if_open guards) = are_guards p guards
told_rule p (else_if_open guards) = are_guards p guards
told_rule p (probe from) = is_peer p from
told_rule p (test_open label guards) = is_label p label && are_guards p guards
told_rule p (else_test_open label guards) = is_label p label && are_guards p guards
told_rule p other = true

abbrev pub last_of : List Test → Option Test
last_of [] = None
last_of (t ∷ ts) = last_behind t ts where
  last_behind : Test → List Test → Option Test
  last_behind t [] = Some t
  last_behind t (u ∷ us) = last_behind u us

abbrev pub picks_rule : Told → ℕ → List Guard → Item → Bool
picks_rule t label guards (picks branch) = nat_lt branch (2 ^ 32) && comes_after (last_of t.tests) (record { branch = branch; label = label; guards = guards })
picks_rule t label guards other = true

abbrev pub rule_at : Program → State → Wanted → Item → Bool
rule_at p s statement item = free_rule p s item
rule_at p s (made label) item = made_rule p item
rule_at p s (rooted label root) item = true
rule_at p s (cast label root) item = true
rule_at p s (reduced label op root) item = true
rule_at p s (allreduced label op) item = true
rule_at p s (received label from) item = true
rule_at p s (chosen who kernel) item = told_rule p item
rule_at p s (asked who kernel) item = told_rule p item
rule_at p s (relaying who kernel relays guards) item = told_rule p item
rule_at p s (relayed who kernel relays) item = told_rule p item
rule_at p s (sourced who kernel relays) item = told_rule p item
rule_at p s (probed who kernel relays from) item = told_rule p item
rule_at p s (untested who kernel relays from) item = told_rule p item
rule_at p s (testing t label guards) item = picks_rule t label guards item
rule_at p s (tested t) item = told_rule p item
rule_at p s (aborting t) item = told_rule p item
rule_at p s (aborted t) item = told_rule p item
rule_at p s (all_tested t) item = told_rule p item
rule_at p s (answered t) item = told_rule p item

abbrev pub rule : Program → State → Item → Bool
rule p s item = rule_at p s s.wanted item

-- ---- lines in a row

-- the next state, where the line is one that may stand there
abbrev pub goes_on : Program → State → ℕ → Item → Option State
goes_on p s depth item = cond (nat_eq depth (place s item) && rule p s item) (step p s item) None

-- a line's depth and item
pub record Place : Type 0 where
  pub depth : ℕ
  pub item : Item

abbrev pub then_read : Option State → (State → Option State) → Option State
then_read None rest = None
then_read (Some s) rest = rest s

-- the state behind the lines, where each goes on
abbrev pub read : Program → List Place → State → Option State
read p [] s = Some s
read p (i ∷ is) s = then_read (goes_on p s i.depth i.item) (read p is)

-- nothing is open or half spelled
abbrev pub finished : State → Option (List Code)
finished s = by s.wanted s.stack where
  by : Wanted → List Frame → Option (List Code)
  by statement [] = Some s.done
  by other stack = None
