-- Which lines a statement has, one after the other, and the rule that each of them keeps.
use Rattle.std.specs.Prelude.{ℕ, zero, suc, ◌+◌, ◌^◌, nat_eq, nat_lt, Bool, true, false, ◌&&◌, if◌then◌else◌, Some, List, [], ◌∷◌, ◌++◌}
use Rattle.std.specs.List.{list_any}
use Rattle.pb_affine.specs.declared.guard.Guard.{Guard}
use Rattle.pb_local.specs.declared.stmt.Peer.{Peer}
use Rattle.pb_local.specs.declared.stmt.Test.{Test}
use Rattle.pb_local.specs.declared.stmt.Relay.{Relay}
use Rattle.pb_local.specs.Tree.{Code, when, for_each, own, loop, again, choice, send, recv, run, barrier, broadcast, reduce, allreduce, Codes, nothing, more, Parts, no_part, part, Program}
use Rattle.pb_local.specs.WellMade.{Scope, behind, in_loop, loops_at, loops_in}
use Rattle.pb_ctree.specs.Lines.{close, else_open, if_open, else_if_open, for_open, own_is, loop_open, goto, makes, root_makes, takes, root_takes, mpi_send, mpi_recv, mpi_barrier, mpi_bcast, mpi_reduce, mpi_allreduce, calls, chooses, probe, test_open, else_test_open, picks, aborts, pick_open, else_pick_open, Line, line}
use Rattle.pb_ctree.specs.Small.{outgoing, incoming, payload_of}
use Rattle.pb_ctree.specs.Rules.{is_offset, is_guard, are_guards, is_peer, is_label, is_wordy, goes_with, computes, can_choose, is_chooser, comes_after, are_below, is_peer_of}

-- a line that stands only for a label with words
abbrev pub if_wordy : Program → ℕ → Line → List Line
if_wordy p label l = if is_wordy p label then l ∷ [] else []

-- ---- how the branch of a choice is told

-- an else-if for each relay after the first, and the last probe is of the source itself
abbrev pub relay_lines : Program → ℕ → List Relay → Peer → List Line
relay_lines p d [] from = line d else_open true ∷ line (d + 1) (probe from) (is_peer p from) ∷ line d close true ∷ []
relay_lines p d (r ∷ rs) from = line d (else_if_open r.guards) (are_guards p r.guards) ∷ line (d + 1) (probe r.from) (is_peer p r.from) ∷ relay_lines p d rs from

abbrev pub probe_lines : Program → ℕ → List Relay → Peer → List Line
probe_lines p d [] from = line d (probe from) (is_peer p from) ∷ []
probe_lines p d (r ∷ rs) from = line d (if_open r.guards) (are_guards p r.guards) ∷ line (d + 1) (probe r.from) (is_peer p r.from) ∷ relay_lines p d rs from

-- one test after another
abbrev pub next_tests : Program → ℕ → Test → List Test → List Line
next_tests p d before [] = []
next_tests p d before (t ∷ ts) =
    line d (else_test_open t.label t.guards) (is_label p t.label && are_guards p t.guards)
    ∷ line (d + 1) (picks t.branch) (nat_lt t.branch (2 ^ 32) && comes_after (Some before) t)
    ∷ next_tests p d t ts

abbrev pub test_lines : Program → ℕ → Test → List Test → List Line
test_lines p d t ts =
    line d (test_open t.label t.guards) (is_label p t.label && are_guards p t.guards)
    ∷ line (d + 1) (picks t.branch) (nat_lt t.branch (2 ^ 32))
    ∷ next_tests p d t ts

abbrev pub abort_lines : ℕ → List Line
abort_lines d = line d else_open true ∷ line (d + 1) aborts true ∷ line d close true ∷ []

abbrev pub isnt_there : List Relay → Bool
isnt_there [] = true
isnt_there (r ∷ rs) = false

-- all ranks but the chooser ask for the branch; without tests nobody does
abbrev pub told_lines : Program → ℕ → Guard → List Relay → Peer → List Test → List Line
told_lines p d who relays from [] = line d close (isnt_there relays && is_peer_of from who) ∷ []
told_lines p d who relays from (t ∷ ts) =
    line d else_open true ∷ probe_lines p (d + 1) relays from ++ test_lines p (d + 1) t ts ++ abort_lines (d + 1) ++ line d close true ∷ []

-- the line that opens branch k, which is the last where none follows
abbrev pub branch_open : ℕ → ℕ → Parts → List Test → Line
branch_open d zero rest tests = line d (pick_open 0) true
branch_open d (suc k) no_part tests = line d else_open (are_below tests (suc k + 1) && nat_lt (suc k) 64)
branch_open d (suc k) (part b rest) tests = line d (else_pick_open (suc k)) (nat_lt (suc k) 64)

-- ---- statements

abbrev mutual
  -- the lines of a statement with d open braces around it
  pub spelled : Program → ℕ → Scope → Code → List Line
  spelled p d s (when guards first other) =
      line d (if_open guards) (are_guards p guards) ∷ spelled_all p (d + 1) s first ++ spelled_other p d (behind s (loops_in first)) other
  spelled p d s (for_each low high body) =
      line d (for_open low high) (is_offset low.off && is_offset high.off) ∷ spelled_all p (d + 1) s body ++ line d close true ∷ []
  spelled p d s (own off) = line d (own_is off) (is_offset off) ∷ []
  spelled p d s (loop id body) = line d (loop_open id) (nat_eq id s.loops) ∷ spelled_all p (d + 1) (in_loop s id) body ++ line d close true ∷ []
  spelled p d s (again id) = line d (goto id) (list_any (nat_eq id) s.around) ∷ []
  spelled p d s (choice who kernel relays from tests branches) =
      line d (if_open (who ∷ [])) (is_guard p who)
      ∷ line (d + 1) (chooses kernel) (is_chooser who && can_choose p kernel)
      ∷ told_lines p d who relays from tests ++ spelled_parts p d s 0 tests branches
  spelled p d s (send label to) =
      if_wordy p label (line d (makes label) (is_label p label)) ++ line d (mpi_send label to) (is_label p label && is_peer p to) ∷ []
  spelled p d s (recv label from) =
      line d (mpi_recv label from) (is_label p label && is_peer p from) ∷ if_wordy p label (line d (takes label incoming) true)
  spelled p d s (run kernel) = line d (calls kernel) (computes p kernel) ∷ []
  spelled p d s barrier = line d mpi_barrier true ∷ []
  spelled p d s (broadcast label root) =
      line d (root_makes root label) (is_label p label && is_wordy p label && is_peer p root) ∷ line d (mpi_bcast label root) true ∷ line d (takes label outgoing) true ∷ []
  spelled p d s (reduce label op root) =
      line d (makes label) (is_label p label && is_wordy p label) ∷ line d (mpi_reduce label op root) (goes_with op (payload_of p label) && is_peer p root) ∷ line d (root_takes root label) true ∷ []
  spelled p d s (allreduce label op) =
      line d (makes label) (is_label p label && is_wordy p label) ∷ line d (mpi_allreduce label op) (goes_with op (payload_of p label)) ∷ line d (takes label incoming) true ∷ []

  pub spelled_all : Program → ℕ → Scope → Codes → List Line
  spelled_all p d s nothing = []
  spelled_all p d s (more c rest) = spelled p d s c ++ spelled_all p d (behind s (loops_at c)) rest

  -- the other part, where it isn't empty, and the brace
  pub spelled_other : Program → ℕ → Scope → Codes → List Line
  spelled_other p d s nothing = line d close true ∷ []
  spelled_other p d s (more c rest) =
      line d else_open true ∷ (spelled p (d + 1) s c ++ spelled_all p (d + 1) (behind s (loops_at c)) rest) ++ line d close true ∷ []

  -- branches from number k on, and the brace; a choice has two at least
  pub spelled_parts : Program → ℕ → Scope → ℕ → List Test → Parts → List Line
  spelled_parts p d s k tests no_part = line d close (nat_lt 1 k) ∷ []
  spelled_parts p d s k tests (part b rest) =
      branch_open d k rest tests ∷ spelled_all p (d + 1) s b ++ spelled_parts p d (behind s (loops_in b)) (k + 1) tests rest
