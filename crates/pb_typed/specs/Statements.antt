-- The pieces of statements.
use Rattle.std.specs.Prelude.{ℕ, suc, ◌+◌, if◌then◌else◌, Some, None, List, [], ◌∷◌, ◌++◌}
use Rattle.pb_syntax.specs.declared.tree.Op.{Op}
use Rattle.pb_local.specs.declared.stmt.Peer.{Peer}
use Rattle.pb_local.specs.Tree.{Code, when, for_each, own, loop, again, choice, send, recv, run, barrier, broadcast, reduce, allreduce, Codes, nothing, more, Parts, no_part, part, Program}
use Rattle.pb_ctree.specs.Lines.{close, else_open, if_open, for_open, own_is, loop_open, goto, makes, root_makes, takes, root_takes, mpi_send, mpi_recv, mpi_barrier, mpi_bcast, mpi_reduce, mpi_allreduce, calls, chooses}
use Rattle.pb_ctree.specs.Rules.{is_wordy}
use Rattle.pb_ctree.specs.Small.{outgoing, incoming}
use Rattle.pb_ctree.specs.Spelling.{told_lines}
use Rattle.pb_cprint.specs.Written.{branch_item, is_last}
use Rattle.pb_types.specs.declared.carried.Carried.{Carried}
use Rattle.pb_types.specs.declared.carried.Carried.TheVariants.{Words, Fixed, Open}
use Rattle.pb_typed.specs.Carrying.{carried_at, shared}
use Rattle.pb_typed.specs.Calls.{make_text, root_make_text, take_text, root_take_text, room_text, made_count, room_count, came_text, shared_room, shared_count, root_room, root_count, all_count, send_text, recv_text, bcast_text, reduce_text, allreduce_text}
use Rattle.pb_typed.specs.Hooks.{run_hook, choose_hook, send_hook, recv_hook, barrier_enter, barrier_leave, enter_hook, leave_hook}
use Rattle.pb_typed.specs.Pieces.{Piece, same, instead, added, as_they_are}

-- pieces that stand only for a label with words
abbrev pub where_words : Program → ℕ → List Piece → List Piece
where_words p label pieces = if is_wordy p label then pieces else []

-- ---- what the kernels' own memory takes beside the plain lines

abbrev pub made_checks : Carried → Program → ℕ → ℕ → List Piece
made_checks Words p d label = []
made_checks (Fixed element number) p d label = []
made_checks (Open element) p d label = added d (made_count p label) ∷ []

abbrev pub rooms : Carried → Program → ℕ → ℕ → Peer → List Piece
rooms Words p d label from = []
rooms (Fixed element number) p d label from = []
rooms (Open element) p d label from = added d (room_text p label (Some from)) ∷ added d (room_count p label) ∷ []

abbrev pub arrivals : Carried → Program → ℕ → ℕ → List Piece
arrivals Words p d label = []
arrivals (Fixed element number) p d label = []
arrivals (Open element) p d label = added d (came_text element p label) ∷ []

abbrev pub shared_rooms : Carried → Program → ℕ → ℕ → Peer → List Piece
shared_rooms Words p d label root = []
shared_rooms (Fixed element number) p d label root = []
shared_rooms (Open element) p d label root = added d (shared_room element p label root) ∷ added d (shared_count p label root) ∷ []

abbrev pub root_rooms : Carried → Program → ℕ → ℕ → Peer → List Piece
root_rooms Words p d label root = []
root_rooms (Fixed element number) p d label root = []
root_rooms (Open element) p d label root = added d (root_room p label root) ∷ added d (root_count p label root) ∷ []

abbrev pub all_rooms : Carried → Program → ℕ → ℕ → List Piece
all_rooms Words p d label = []
all_rooms (Fixed element number) p d label = []
all_rooms (Open element) p d label = added d (room_text p label None) ∷ added d (all_count p label) ∷ []

-- ---- actions

abbrev pub made_pieces : Program → List Carried → ℕ → ℕ → Peer → List Piece
made_pieces p types d label to =
    where_words p label (instead d (makes label) (make_text p types label (Some to)) ∷ made_checks (carried_at types label) p d label)

abbrev pub taken_pieces : Program → List Carried → ℕ → ℕ → Peer → List Piece
taken_pieces p types d label from = where_words p label (instead d (takes label incoming) (take_text p types label (Some from) incoming) ∷ [])

abbrev pub send_pieces : Program → List Carried → ℕ → ℕ → Peer → List Piece
send_pieces p types d label to =
    made_pieces p types d label to ++ added d (send_hook p types label to) ∷ instead d (mpi_send label to) (send_text p types label to) ∷ []

abbrev pub recv_pieces : Program → List Carried → ℕ → ℕ → Peer → List Piece
recv_pieces p types d label from =
    rooms (carried_at types label) p d label from
    ++ instead d (mpi_recv label from) (recv_text p types label from)
    ∷ arrivals (carried_at types label) p d label
    ++ added d (recv_hook p types label from)
    ∷ taken_pieces p types d label from

abbrev pub broadcast_pieces : Program → List Carried → ℕ → ℕ → Peer → List Piece
broadcast_pieces p types d label root =
    instead d (root_makes root label) (root_make_text p types label root None)
    ∷ shared_rooms (carried_at types label) p d label root
    ++ added d (enter_hook p types label (Some root) outgoing)
    ∷ instead d (mpi_bcast label root) (bcast_text p types label root)
    ∷ added d (leave_hook p types label None outgoing)
    ∷ instead d (takes label outgoing) (take_text p types label (Some root) (shared (carried_at types label))) ∷ []

abbrev pub reduce_pieces : Program → List Carried → ℕ → ℕ → Op → Peer → List Piece
reduce_pieces p types d label op root =
    instead d (makes label) (make_text p types label (Some root))
    ∷ root_rooms (carried_at types label) p d label root
    ++ added d (enter_hook p types label None outgoing)
    ∷ instead d (mpi_reduce label op root) (reduce_text p types label op root)
    ∷ added d (leave_hook p types label (Some root) incoming)
    ∷ instead d (root_takes root label) (root_take_text p types label root None incoming) ∷ []

abbrev pub allreduce_pieces : Program → List Carried → ℕ → ℕ → Op → List Piece
allreduce_pieces p types d label op =
    instead d (makes label) (make_text p types label None)
    ∷ all_rooms (carried_at types label) p d label
    ++ added d (enter_hook p types label None outgoing)
    ∷ instead d (mpi_allreduce label op) (allreduce_text p types label op)
    ∷ added d (leave_hook p types label None incoming)
    ∷ instead d (takes label incoming) (take_text p types label None incoming) ∷ []

abbrev pub run_pieces : Program → ℕ → ℕ → List Piece
run_pieces p d kernel = same d (calls kernel) ∷ added d (run_hook p kernel) ∷ []

abbrev pub barrier_pieces : ℕ → List Piece
barrier_pieces d = added d barrier_enter ∷ same d mpi_barrier ∷ added d barrier_leave ∷ []

abbrev pub parts_in : Parts → ℕ
parts_in no_part = 0
parts_in (part b rest) = suc (parts_in rest)

-- ---- statements

abbrev mutual
  -- the pieces of a statement with d open braces around it
  pub typed : Program → List Carried → ℕ → Code → List Piece
  typed p t d (when guards first other) = same d (if_open guards) ∷ typed_all p t (d + 1) first ++ typed_other p t d other
  typed p t d (for_each low high body) = same d (for_open low high) ∷ typed_all p t (d + 1) body ++ same d close ∷ []
  typed p t d (own off) = same d (own_is off) ∷ []
  typed p t d (loop id body) = same d (loop_open id) ∷ typed_all p t (d + 1) body ++ same d close ∷ []
  typed p t d (again id) = same d (goto id) ∷ []
  typed p t d (choice who kernel relays from tests branches) =
      same d (if_open (who ∷ [])) ∷ same (d + 1) (chooses kernel) ∷ added (d + 1) (choose_hook p kernel (parts_in branches))
      ∷ as_they_are (told_lines p d who relays from tests) ++ typed_parts p t d 0 branches
  typed p t d (send label to) = send_pieces p t d label to
  typed p t d (recv label from) = recv_pieces p t d label from
  typed p t d (run kernel) = run_pieces p d kernel
  typed p t d barrier = barrier_pieces d
  typed p t d (broadcast label root) = broadcast_pieces p t d label root
  typed p t d (reduce label op root) = reduce_pieces p t d label op root
  typed p t d (allreduce label op) = allreduce_pieces p t d label op

  pub typed_all : Program → List Carried → ℕ → Codes → List Piece
  typed_all p t d nothing = []
  typed_all p t d (more c rest) = typed p t d c ++ typed_all p t d rest

  -- the other part, where it isn't empty, and the brace
  pub typed_other : Program → List Carried → ℕ → Codes → List Piece
  typed_other p t d nothing = same d close ∷ []
  typed_other p t d (more c rest) = same d else_open ∷ (typed p t (d + 1) c ++ typed_all p t (d + 1) rest) ++ same d close ∷ []

  -- branches from number k on, and the brace
  pub typed_parts : Program → List Carried → ℕ → ℕ → Parts → List Piece
  typed_parts p t d k no_part = same d close ∷ []
  typed_parts p t d k (part b rest) = same d (branch_item k (is_last rest)) ∷ typed_all p t (d + 1) b ++ typed_parts p t d (k + 1) rest
