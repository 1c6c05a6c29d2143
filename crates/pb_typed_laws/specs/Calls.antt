-- What the calls of MPI in a program text say, beside those of the plain text.
use Rattle.std.specs.Prelude.{◌≡◌, ℕ, Bool, true, false, nat_eq, ◌||◌, List, [], ◌∷◌, codes, decimal}
use Rattle.std.specs.List.{starts_with}
use Rattle.pb_syntax.specs.declared.tree.Op.{Op}
use Rattle.pb_local.specs.declared.stmt.Peer.{Peer}
use Rattle.pb_local.specs.Pieces.{joined}
use Rattle.pb_local.specs.Tree.{Program}
use Rattle.pb_ctree.specs.Lines.{Item, raw, close, else_open, if_open, else_if_open, for_open, own_is, loop_open, goto, makes, root_makes, takes, root_takes, mpi_send, mpi_recv, mpi_barrier, mpi_bcast, mpi_reduce, mpi_allreduce, calls, chooses, probe, test_open, else_test_open, picks, aborts, pick_open, else_pick_open}
use Rattle.pb_ctree.specs.Small.{outgoing, incoming, peer_text, op_text}
use Rattle.pb_types.specs.declared.carried.Carried.{Carried}
use Rattle.pb_typed.specs.Carrying.{carried_at, buffer_of, data_text, shared}
use Rattle.pb_typed.specs.Calls.{status_text}
use Rattle.pb_typed.specs.Pieces.{Piece, same, instead, added}

-- ---- calls with some data: to one rank, with one tag

abbrev pub sends : Program → ℕ → Peer → List ℕ → List ℕ
sends p label to words = joined (codes "MPI_Send(" ∷ words ∷ codes ", " ∷ peer_text p to ∷ codes ", " ∷ decimal label ∷ codes ", MPI_COMM_WORLD);" ∷ [])

abbrev pub receives : Program → ℕ → Peer → List ℕ → List ℕ → List ℕ
receives p label from words status = joined (codes "MPI_Recv(" ∷ words ∷ codes ", " ∷ peer_text p from ∷ codes ", " ∷ decimal label ∷ status ∷ [])

abbrev pub broadcasts : Program → Peer → List ℕ → List ℕ
broadcasts p root words = joined (codes "MPI_Bcast(" ∷ words ∷ codes ", " ∷ peer_text p root ∷ codes ", MPI_COMM_WORLD);" ∷ [])

abbrev pub reduces : Program → Op → Peer → List ℕ → List ℕ → List ℕ
reduces p op root buffer words = joined (codes "MPI_Reduce(" ∷ buffer ∷ codes ", " ∷ words ∷ codes ", " ∷ op_text op ∷ codes ", " ∷ peer_text p root ∷ codes ", MPI_COMM_WORLD);" ∷ [])

abbrev pub reduces_all : Op → List ℕ → List ℕ → List ℕ
reduces_all op buffer words = joined (codes "MPI_Allreduce(" ∷ buffer ∷ codes ", " ∷ words ∷ codes ", " ∷ op_text op ∷ codes ", MPI_COMM_WORLD);" ∷ [])

-- the text in the place of a line that calls MPI is the same call, with the label's data; other lines call nothing
abbrev pub CallsAs : Program → List Carried → Item → List ℕ → Type 0
CallsAs p t (mpi_send label to) text = text ≡ sends p label to (data_text p t label outgoing)
CallsAs p t (mpi_recv label from) text = text ≡ receives p label from (data_text p t label incoming) (status_text (carried_at t label))
CallsAs p t (mpi_bcast label root) text = text ≡ broadcasts p root (data_text p t label (shared (carried_at t label)))
CallsAs p t (mpi_reduce label op root) text = text ≡ reduces p op root (buffer_of (carried_at t label) p label outgoing) (data_text p t label incoming)
CallsAs p t (mpi_allreduce label op) text = text ≡ reduces_all op (buffer_of (carried_at t label) p label outgoing) (data_text p t label incoming)
CallsAs p t (makes label) text = starts_with nat_eq text (codes "MPI_") ≡ false
CallsAs p t (root_makes root label) text = starts_with nat_eq text (codes "MPI_") ≡ false
CallsAs p t (takes label side) text = starts_with nat_eq text (codes "MPI_") ≡ false
CallsAs p t (root_takes root label) text = starts_with nat_eq text (codes "MPI_") ≡ false
-- no other line has another in its place
CallsAs p t (raw plain) text = ⊥
CallsAs p t close text = ⊥
CallsAs p t else_open text = ⊥
CallsAs p t (if_open guards) text = ⊥
CallsAs p t (else_if_open guards) text = ⊥
CallsAs p t (for_open low high) text = ⊥
CallsAs p t (own_is off) text = ⊥
CallsAs p t (loop_open id) text = ⊥
CallsAs p t (goto id) text = ⊥
CallsAs p t mpi_barrier text = ⊥
CallsAs p t (calls kernel) text = ⊥
CallsAs p t (chooses kernel) text = ⊥
CallsAs p t (probe from) text = ⊥
CallsAs p t (test_open label guards) text = ⊥
CallsAs p t (else_test_open label guards) text = ⊥
CallsAs p t (picks branch) text = ⊥
CallsAs p t aborts text = ⊥
CallsAs p t (pick_open branch) text = ⊥
CallsAs p t (else_pick_open branch) text = ⊥

-- a line of the plain text whose label's data may be other data
abbrev pub has_data : Item → Bool
has_data (mpi_send label to) = true
has_data (mpi_recv label from) = true
has_data (mpi_bcast label root) = true
has_data (mpi_reduce label op root) = true
has_data (mpi_allreduce label op) = true
has_data (makes label) = true
has_data (root_makes root label) = true
has_data (takes label side) = true
has_data (root_takes root label) = true
has_data (raw plain) = false
has_data close = false
has_data else_open = false
has_data (if_open guards) = false
has_data (else_if_open guards) = false
has_data (for_open low high) = false
has_data (own_is off) = false
has_data (loop_open id) = false
has_data (goto id) = false
has_data mpi_barrier = false
has_data (calls kernel) = false
has_data (chooses kernel) = false
has_data (probe from) = false
has_data (test_open label guards) = false
has_data (else_test_open label guards) = false
has_data (picks branch) = false
has_data aborts = false
has_data (pick_open branch) = false
has_data (else_pick_open branch) = false

-- a further line calls no more of MPI than to ask how long a message was
abbrev pub asks_at_most : List ℕ → Bool
asks_at_most text = starts_with nat_eq text (codes "MPI_Get_count(") || starts_with nat_eq text (codes "PABBLE(") || starts_with nat_eq text (codes "t_") || starts_with nat_eq text (codes "m_") || starts_with nat_eq text (codes "n_")

abbrev pub KeepsCall : Program → List Carried → Piece → Type 0
KeepsCall p t (same d item) = has_data item ≡ false
KeepsCall p t (instead d item text) = CallsAs p t item text
KeepsCall p t (added d text) = asks_at_most text ≡ true

abbrev pub KeepCalls : Program → List Carried → List Piece → Type 0
KeepCalls p t [] = Unit {0}
KeepCalls p t (x ∷ xs) = KeepsCall p t x × KeepCalls p t xs
