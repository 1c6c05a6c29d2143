-- The text of statements whose lines begin at a depth.
use Rattle.std.specs.Prelude.{ℕ, zero, suc, ◌+◌, Bool, true, false, if◌then◌else◌, List, [], ◌∷◌, ◌++◌}
use Rattle.pb_affine.specs.declared.guard.Guard.{Guard}
use Rattle.pb_syntax.specs.declared.tree.Op.{Op}
use Rattle.pb_local.specs.declared.stmt.Peer.{Peer}
use Rattle.pb_local.specs.declared.stmt.Test.{Test}
use Rattle.pb_local.specs.declared.stmt.Relay.{Relay}
use Rattle.pb_local.specs.Tree.{Code, when, for_each, own, loop, again, choice, send, recv, run, barrier, broadcast, reduce, allreduce, Codes, nothing, more, Parts, no_part, part, Program}
use Rattle.pb_ctree.specs.Lines.{Item, close, else_open, if_open, else_if_open, for_open, own_is, loop_open, goto, makes, root_makes, takes, root_takes, mpi_send, mpi_recv, mpi_barrier, mpi_bcast, mpi_reduce, mpi_allreduce, calls, chooses, probe, test_open, else_test_open, picks, aborts, pick_open, else_pick_open}
use Rattle.pb_ctree.specs.Rules.{is_wordy}
use Rattle.pb_ctree.specs.Small.{outgoing, incoming}
use Rattle.pb_cprint_lines.specs.Printed.{bytes}

abbrev pub wordy : Program → ℕ → List ℕ → List ℕ
wordy p label text = if is_wordy p label then text else []

-- ---- how the branch of a choice is told

unfoldable pub relay_written : Program → ℕ → Relay → List ℕ
relay_written p d r = bytes p d (else_if_open r.guards) ++ bytes p (d + 1) (probe r.from)

unfoldable pub last_relay : Program → ℕ → Peer → List ℕ
last_relay p d from = bytes p d else_open ++ bytes p (d + 1) (probe from) ++ bytes p d close

unfoldable pub first_relay : Program → ℕ → Relay → List ℕ
first_relay p d r = bytes p d (if_open r.guards) ++ bytes p (d + 1) (probe r.from)

unfoldable pub first_test : Program → ℕ → Test → List ℕ
first_test p d t = bytes p d (test_open t.label t.guards) ++ bytes p (d + 1) (picks t.branch)

unfoldable pub test_written : Program → ℕ → Test → List ℕ
test_written p d t = bytes p d (else_test_open t.label t.guards) ++ bytes p (d + 1) (picks t.branch)

unfoldable pub abort_written : Program → ℕ → List ℕ
abort_written p d = bytes p d else_open ++ bytes p (d + 1) aborts ++ bytes p d close

unfoldable pub choice_open : Program → ℕ → Guard → ℕ → List ℕ
choice_open p d who kernel = bytes p d (if_open (who ∷ [])) ++ bytes p (d + 1) (chooses kernel)

abbrev pub relays_written : Program → ℕ → List Relay → Peer → List ℕ
relays_written p d [] from = last_relay p d from
relays_written p d (r ∷ rs) from = relay_written p d r ++ relays_written p d rs from

abbrev pub probes_written : Program → ℕ → List Relay → Peer → List ℕ
probes_written p d [] from = bytes p d (probe from)
probes_written p d (r ∷ rs) from = first_relay p d r ++ relays_written p d rs from

abbrev pub tests_written : Program → ℕ → List Test → List ℕ
tests_written p d [] = []
tests_written p d (t ∷ ts) = test_written p d t ++ tests_written p d ts

unfoldable pub told_open : Program → ℕ → List Relay → Peer → List ℕ
told_open p d relays from = bytes p d else_open ++ probes_written p (d + 1) relays from

unfoldable pub tests_all : Program → ℕ → Test → List Test → List ℕ
tests_all p d t ts = first_test p d t ++ tests_written p d ts

unfoldable pub told_end : Program → ℕ → List ℕ
told_end p d = abort_written p (d + 1) ++ bytes p d close

unfoldable pub told_some : Program → ℕ → List Relay → Peer → Test → List Test → List ℕ
told_some p d relays from t ts = told_open p d relays from ++ tests_all p (d + 1) t ts ++ told_end p d

-- all ranks but the chooser ask for the branch; without tests nobody does
abbrev pub told_written : Program → ℕ → List Relay → Peer → List Test → List ℕ
told_written p d relays from [] = bytes p d close
told_written p d relays from (t ∷ ts) = told_some p d relays from t ts

unfoldable pub choice_written : Program → ℕ → Guard → ℕ → List Relay → Peer → List Test → List ℕ
choice_written p d who kernel relays from tests = choice_open p d who kernel ++ told_written p d relays from tests

abbrev pub branch_item : ℕ → Bool → Item
branch_item zero is_last = pick_open 0
branch_item (suc k) true = else_open
branch_item (suc k) false = else_pick_open (suc k)

abbrev pub is_last : Parts → Bool
is_last no_part = true
is_last (part b rest) = false

-- ---- statements of several lines

unfoldable pub send_written : Program → ℕ → ℕ → Peer → List ℕ
send_written p d label to = wordy p label (bytes p d (makes label)) ++ bytes p d (mpi_send label to)

unfoldable pub recv_written : Program → ℕ → ℕ → Peer → List ℕ
recv_written p d label from = bytes p d (mpi_recv label from) ++ wordy p label (bytes p d (takes label incoming))

unfoldable pub broadcast_written : Program → ℕ → ℕ → Peer → List ℕ
broadcast_written p d label root = bytes p d (root_makes root label) ++ bytes p d (mpi_bcast label root) ++ bytes p d (takes label outgoing)

unfoldable pub reduce_written : Program → ℕ → ℕ → Op → Peer → List ℕ
reduce_written p d label op root = bytes p d (makes label) ++ bytes p d (mpi_reduce label op root) ++ bytes p d (root_takes root label)

unfoldable pub allreduce_written : Program → ℕ → ℕ → Op → List ℕ
allreduce_written p d label op = bytes p d (makes label) ++ bytes p d (mpi_allreduce label op) ++ bytes p d (takes label incoming)

abbrev mutual
  pub written : Program → ℕ → Code → List ℕ
  written p d (when guards first other) = bytes p d (if_open guards) ++ written_all p (d + 1) first ++ written_other p d other
  written p d (for_each low high body) = bytes p d (for_open low high) ++ written_all p (d + 1) body ++ bytes p d close
  written p d (own off) = bytes p d (own_is off)
  written p d (loop id body) = bytes p d (loop_open id) ++ written_all p (d + 1) body ++ bytes p d close
  written p d (again id) = bytes p d (goto id)
  written p d (choice who kernel relays from tests branches) = choice_written p d who kernel relays from tests ++ written_parts p d 0 branches
  written p d (send label to) = send_written p d label to
  written p d (recv label from) = recv_written p d label from
  written p d (run kernel) = bytes p d (calls kernel)
  written p d barrier = bytes p d mpi_barrier
  written p d (broadcast label root) = broadcast_written p d label root
  written p d (reduce label op root) = reduce_written p d label op root
  written p d (allreduce label op) = allreduce_written p d label op

  pub written_all : Program → ℕ → Codes → List ℕ
  written_all p d nothing = []
  written_all p d (more c rest) = written p d c ++ written_all p d rest

  pub written_other : Program → ℕ → Codes → List ℕ
  written_other p d nothing = bytes p d close
  written_other p d (more c rest) = bytes p d else_open ++ (written p (d + 1) c ++ written_all p (d + 1) rest) ++ bytes p d close

  pub written_parts : Program → ℕ → ℕ → Parts → List ℕ
  written_parts p d k no_part = bytes p d close
  written_parts p d k (part b rest) = bytes p d (branch_item k (is_last rest)) ++ written_all p (d + 1) b ++ written_parts p d (k + 1) rest

abbrev pub part_written : Program → ℕ → ℕ → Bool → Codes → List ℕ
part_written p d k last b = bytes p d (branch_item k last) ++ written_all p (d + 1) b
