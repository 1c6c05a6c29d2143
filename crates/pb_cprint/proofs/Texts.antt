-- The text of the lines of statements is what the printer writes.
use Rattle.std.proofs.Common.{◌≡◌, ℕ, zero, suc, ◌+◌, Bool, true, false, List, [], ◌∷◌, ◌++◌, refl, sym, ap, ◌∙◌, append_assoc, append-nil}
use Rattle.std.specs.Prelude.{if◌then◌else◌, nat_eq, nat_lt, ◌&&◌, ◌^◌}
use Rattle.std.specs.List.{list_any}
use Rattle.pb_affine.specs.declared.guard.Guard.{Guard}
use Rattle.pb_local.specs.declared.stmt.Peer.{Peer}
use Rattle.pb_local.specs.declared.stmt.Test.{Test}
use Rattle.pb_local.specs.declared.stmt.Relay.{Relay}
use Rattle.pb_local.specs.Tree.{Code, when, for_each, own, loop, again, choice, send, recv, run, barrier, broadcast, reduce, allreduce, Codes, nothing, more, Parts, no_part, part, Program}
use Rattle.pb_local.specs.WellMade.{Scope, behind, in_loop, loops_at, loops_in}
use Rattle.pb_ctree.specs.Lines.{Item, close, else_open, if_open, else_if_open, for_open, own_is, loop_open, goto, makes, root_makes, takes, root_takes, mpi_send, mpi_recv, mpi_barrier, mpi_bcast, mpi_reduce, mpi_allreduce, calls, chooses, probe, test_open, else_test_open, picks, aborts, pick_open, else_pick_open, Line, line}
use Rattle.pb_ctree.specs.Rules.{is_offset, is_guard, are_guards, is_peer, is_label, is_wordy, goes_with, computes, can_choose, is_chooser, comes_after, are_below, is_peer_of}
use Rattle.pb_ctree.specs.Small.{outgoing, incoming, payload_of}
use Rattle.pb_ctree.specs.Spelling.{if_wordy, relay_lines, probe_lines, next_tests, test_lines, abort_lines, isnt_there, told_lines, branch_open, spelled, spelled_all, spelled_other, spelled_parts}
use Rattle.pb_ctree.specs.Texts.{text_of}
use Rattle.pb_cprint_lines.specs.Printed.{bytes}
use Rattle.pb_cprint.specs.Written.{wordy, relay_written, last_relay, first_relay, first_test, test_written, abort_written, choice_open, relays_written, probes_written, tests_written, told_open, tests_all, told_end, told_some, told_written, choice_written, branch_item, is_last, send_written, recv_written, broadcast_written, reduce_written, allreduce_written, written, written_all, written_other, written_parts}

pub text_append : (p : Program) (xs ys : List Line) → text_of p (xs ++ ys) ≡ text_of p xs ++ text_of p ys
text_append p [] ys = refl
text_append p (x ∷ xs) ys = ap (λ w. bytes p x.depth x.item ++ w) (text_append p xs ys) ∙ sym (append_assoc (bytes p x.depth x.item) (text_of p xs) (text_of p ys))

pub right2 : (a b : List ℕ) → a ++ (b ++ []) ≡ a ++ b
right2 a b = ap (λ w. a ++ w) (append-nil b)

pub right3 : (a b c : List ℕ) → a ++ (b ++ (c ++ [])) ≡ a ++ b ++ c
right3 a b c = ap (λ w. a ++ w) (right2 b c) ∙ sym (append_assoc a b c)

-- two texts and a third
pub two_and : (a b c d : List ℕ) → c ≡ d → a ++ (b ++ c) ≡ (a ++ b) ++ d
two_and a b c d e = sym (append_assoc a b c) ∙ ap (λ w. (a ++ b) ++ w) e

pub both : (a b c d : List ℕ) → a ≡ c → b ≡ d → a ++ b ≡ c ++ d
both a b c d p q = ap (λ w. w ++ b) p ∙ ap (λ w. c ++ w) q

-- a line, lines, and lines
block : (p : Program) (l : Line) (xs ys : List Line) (a b : List ℕ) → text_of p xs ≡ a → text_of p ys ≡ b → text_of p (l ∷ xs ++ ys) ≡ bytes p l.depth l.item ++ a ++ b
block p l xs ys a b q r = text_append p (l ∷ xs) ys ∙ ap (λ w. bytes p l.depth l.item ++ w ++ text_of p ys) q ∙ ap (λ w. bytes p l.depth l.item ++ a ++ w) r

pub words_same : (p : Program) (b : Bool) (l : Line) → text_of p (if b then l ∷ [] else []) ≡ (if b then bytes p l.depth l.item else [])
words_same p true l = append-nil _
words_same p false l = refl

relays_same : (p : Program) (d : ℕ) (rs : List Relay) (from : Peer) → text_of p (relay_lines p d rs from) ≡ relays_written p d rs from
unfolding relay_written last_relay
relays_same p d [] from = right3 (bytes p d else_open) (bytes p (d + 1) (probe from)) (bytes p d close)
relays_same p d (r ∷ rs) from =
    two_and (bytes p d (else_if_open r.guards)) (bytes p (d + 1) (probe r.from)) (text_of p (relay_lines p d rs from)) (relays_written p d rs from) (relays_same p d rs from)

probes_same : (p : Program) (d : ℕ) (rs : List Relay) (from : Peer) → text_of p (probe_lines p d rs from) ≡ probes_written p d rs from
unfolding first_relay
probes_same p d [] from = append-nil _
probes_same p d (r ∷ rs) from =
    two_and (bytes p d (if_open r.guards)) (bytes p (d + 1) (probe r.from)) (text_of p (relay_lines p d rs from)) (relays_written p d rs from) (relays_same p d rs from)

next_same : (p : Program) (d : ℕ) (s : Test) (ts : List Test) → text_of p (next_tests p d s ts) ≡ tests_written p d ts
unfolding test_written
next_same p d s [] = refl
next_same p d s (t ∷ ts) =
    two_and (bytes p d (else_test_open t.label t.guards)) (bytes p (d + 1) (picks t.branch)) (text_of p (next_tests p d t ts)) (tests_written p d ts) (next_same p d t ts)

tests_same : (p : Program) (d : ℕ) (t : Test) (ts : List Test) → text_of p (test_lines p d t ts) ≡ tests_all p d t ts
unfolding tests_all first_test
tests_same p d t ts =
    two_and (bytes p d (test_open t.label t.guards)) (bytes p (d + 1) (picks t.branch)) (text_of p (next_tests p d t ts)) (tests_written p d ts) (next_same p d t ts)

abort_same : (p : Program) (d : ℕ) → text_of p (abort_lines d) ≡ abort_written p d
unfolding abort_written
abort_same p d = right3 (bytes p d else_open) (bytes p (d + 1) aborts) (bytes p d close)

told_open_same : (p : Program) (d : ℕ) (relays : List Relay) (from : Peer) → text_of p (line d else_open true ∷ probe_lines p (d + 1) relays from) ≡ told_open p d relays from
unfolding told_open
told_open_same p d relays from = ap (λ w. bytes p d else_open ++ w) (probes_same p (d + 1) relays from)

last_two : (a b c : List ℕ) → (a ++ b) ++ (c ++ []) ≡ a ++ (b ++ c)
last_two a b c = ap (λ w. (a ++ b) ++ w) (append-nil c) ∙ append_assoc a b c

pub told_same : (p : Program) (d : ℕ) (who : Guard) (relays : List Relay) (from : Peer) (tests : List Test) → text_of p (told_lines p d who relays from tests) ≡ told_written p d relays from tests
unfolding told_some told_end
told_same p d who relays from [] = append-nil _
told_same p d who relays from (t ∷ ts) =
    let first = line d else_open true ∷ probe_lines p (d + 1) relays from in
    let tests = test_lines p (d + 1) t ts in
    let stop = abort_lines (d + 1) in
    text_append p (first ++ tests ++ stop) (line d close true ∷ [])
    ∙ ap (λ w. w ++ (bytes p d close ++ [])) (text_append p (first ++ tests) stop
    ∙ both (text_of p (first ++ tests)) (text_of p stop) (told_open p d relays from ++ tests_all p (d + 1) t ts) (abort_written p (d + 1))
    (text_append p first tests ∙ both (text_of p first) (text_of p tests) (told_open p d relays from) (tests_all p (d + 1) t ts) (told_open_same p d relays from) (tests_same p (d + 1) t ts))
    (abort_same p (d + 1)))
    ∙ last_two (told_open p d relays from ++ tests_all p (d + 1) t ts) (abort_written p (d + 1)) (bytes p d close)

pub branch_same : (p : Program) (d k : ℕ) (rest : Parts) (tests : List Test) → bytes p (branch_open d k rest tests).depth (branch_open d k rest tests).item ≡ bytes p d (branch_item k (is_last rest))
branch_same p d zero rest tests = refl
branch_same p d (suc k) no_part tests = refl
branch_same p d (suc k) (part b rest) tests = refl

choice_same : (p : Program) (d : ℕ) (who : Guard) (kernel : ℕ) (relays : List Relay) (from : Peer) (tests : List Test) (kept other : Bool)
    → bytes p d (if_open (who ∷ [])) ++ (bytes p (d + 1) (chooses kernel) ++ text_of p (told_lines p d who relays from tests)) ≡ choice_written p d who kernel relays from tests
unfolding choice_written choice_open
choice_same p d who kernel relays from tests kept other =
    two_and (bytes p d (if_open (who ∷ []))) (bytes p (d + 1) (chooses kernel)) (text_of p (told_lines p d who relays from tests)) (told_written p d relays from tests) (told_same p d who relays from tests)

send_same : (p : Program) (d label : ℕ) (to : Peer) (a b : Bool) → text_of p (if_wordy p label (line d (makes label) a) ++ line d (mpi_send label to) b ∷ []) ≡ send_written p d label to
unfolding send_written
send_same p d label to a b =
    text_append p (if_wordy p label (line d (makes label) a)) (line d (mpi_send label to) b ∷ [])
    ∙ both (text_of p (if_wordy p label (line d (makes label) a))) (bytes p d (mpi_send label to) ++ []) (wordy p label (bytes p d (makes label))) (bytes p d (mpi_send label to)) (words_same p (is_wordy p label) (line d (makes label) a)) (append-nil _)

recv_same : (p : Program) (d label : ℕ) (from : Peer) (a b : Bool) → text_of p (line d (mpi_recv label from) a ∷ if_wordy p label (line d (takes label incoming) b)) ≡ recv_written p d label from
unfolding recv_written
recv_same p d label from a b = ap (λ w. bytes p d (mpi_recv label from) ++ w) (words_same p (is_wordy p label) (line d (takes label incoming) b))

broadcast_same : (p : Program) (d label : ℕ) (root : Peer) (a : Bool) → text_of p (line d (root_makes root label) a ∷ line d (mpi_bcast label root) true ∷ line d (takes label outgoing) true ∷ []) ≡ broadcast_written p d label root
unfolding broadcast_written
broadcast_same p d label root a = right3 (bytes p d (root_makes root label)) (bytes p d (mpi_bcast label root)) (bytes p d (takes label outgoing))

mutual
  unfolding reduce_written allreduce_written

  pub stmt_same : (p : Program) (d : ℕ) (s : Scope) (c : Code) → text_of p (spelled p d s c) ≡ written p d c
  stmt_same p d s (when guards first other) =
      block p (line d (if_open guards) (are_guards p guards)) (spelled_all p (d + 1) s first) (spelled_other p d (behind s (loops_in first)) other) (written_all p (d + 1) first) (written_other p d other) (all_same p (d + 1) s first) (other_same p d (behind s (loops_in first)) other)
  stmt_same p d s (for_each low high body) =
      block p (line d (for_open low high) (is_offset low.off && is_offset high.off)) (spelled_all p (d + 1) s body) (line d close true ∷ []) (written_all p (d + 1) body) (bytes p d close) (all_same p (d + 1) s body) (append-nil _)
  stmt_same p d s (own off) = append-nil _
  stmt_same p d s (loop id body) =
      block p (line d (loop_open id) (nat_eq id s.loops)) (spelled_all p (d + 1) (in_loop s id) body) (line d close true ∷ []) (written_all p (d + 1) body) (bytes p d close) (all_same p (d + 1) (in_loop s id) body) (append-nil _)
  stmt_same p d s (again id) = append-nil _
  stmt_same p d s (choice who kernel relays from tests branches) =
      let a = line d (if_open (who ∷ [])) (is_guard p who) in
      let b = line (d + 1) (chooses kernel) (is_chooser who && can_choose p kernel) in
      let told = told_lines p d who relays from tests in
      text_append p (a ∷ b ∷ told) (spelled_parts p d s 0 tests branches)
      ∙ both (text_of p (a ∷ b ∷ told)) (text_of p (spelled_parts p d s 0 tests branches)) (choice_written p d who kernel relays from tests) (written_parts p d 0 branches) (choice_same p d who kernel relays from tests true true) (parts_same p d s 0 tests branches)
  stmt_same p d s (send label to) = send_same p d label to (is_label p label) (is_label p label && is_peer p to)
  stmt_same p d s (recv label from) = recv_same p d label from (is_label p label && is_peer p from) true
  stmt_same p d s (run kernel) = append-nil _
  stmt_same p d s barrier = append-nil _
  stmt_same p d s (broadcast label root) = broadcast_same p d label root (is_label p label && is_wordy p label && is_peer p root)
  stmt_same p d s (reduce label op root) = right3 (bytes p d (makes label)) (bytes p d (mpi_reduce label op root)) (bytes p d (root_takes root label))
  stmt_same p d s (allreduce label op) = right3 (bytes p d (makes label)) (bytes p d (mpi_allreduce label op)) (bytes p d (takes label incoming))

  pub all_same : (p : Program) (d : ℕ) (s : Scope) (cs : Codes) → text_of p (spelled_all p d s cs) ≡ written_all p d cs
  all_same p d s nothing = refl
  all_same p d s (more c rest) =
      text_append p (spelled p d s c) (spelled_all p d (behind s (loops_at c)) rest)
      ∙ both (text_of p (spelled p d s c)) (text_of p (spelled_all p d (behind s (loops_at c)) rest)) (written p d c) (written_all p d rest) (stmt_same p d s c) (all_same p d (behind s (loops_at c)) rest)

  pub other_same : (p : Program) (d : ℕ) (s : Scope) (cs : Codes) → text_of p (spelled_other p d s cs) ≡ written_other p d cs
  other_same p d s nothing = append-nil _
  other_same p d s (more c rest) =
      let xs = spelled p (d + 1) s c in
      let ys = spelled_all p (d + 1) (behind s (loops_at c)) rest in
      block p (line d else_open true) (xs ++ ys) (line d close true ∷ []) (written p (d + 1) c ++ written_all p (d + 1) rest) (bytes p d close)
      (text_append p xs ys ∙ both (text_of p xs) (text_of p ys) (written p (d + 1) c) (written_all p (d + 1) rest) (stmt_same p (d + 1) s c) (all_same p (d + 1) (behind s (loops_at c)) rest)) (append-nil _)

  pub parts_same : (p : Program) (d : ℕ) (s : Scope) (k : ℕ) (tests : List Test) (ps : Parts) → text_of p (spelled_parts p d s k tests ps) ≡ written_parts p d k ps
  parts_same p d s k tests no_part = append-nil _
  parts_same p d s k tests (part b rest) =
      block p (branch_open d k rest tests) (spelled_all p (d + 1) s b) (spelled_parts p d (behind s (loops_in b)) (k + 1) tests rest) (written_all p (d + 1) b) (written_parts p d (k + 1) rest) (all_same p (d + 1) s b) (parts_same p d (behind s (loops_in b)) (k + 1) tests rest)
      ∙ ap (λ w. w ++ written_all p (d + 1) b ++ written_parts p d (k + 1) rest) (branch_same p d k rest tests)
