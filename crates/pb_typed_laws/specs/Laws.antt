-- Laws on the calls of MPI in program texts.
use Rattle.std.specs.Prelude.{◌≡◌, ℕ, ◌⊎◌, List, [], ◌∷◌, ◌++◌, codes}
use Rattle.pb_local.specs.declared.stmt.Peer.{Peer}
use Rattle.pb_syntax.specs.declared.tree.Op.{Op}
use Rattle.pb_local.specs.Pieces.{joined}
use Rattle.pb_local.specs.Tree.{Program, Codes}
use Rattle.pb_ctree.specs.Lines.{mpi_send, mpi_recv, mpi_bcast, mpi_reduce, mpi_allreduce, item_text}
use Rattle.pb_ctree.specs.Small.{outgoing, incoming, words_text, buffer_text, payload_of}
use Rattle.pb_types.specs.declared.element.Element.{Element}
use Rattle.pb_types.specs.declared.carried.Carried.{Carried}
use Rattle.pb_types.specs.declared.carried.Carried.TheVariants.{Open}
use Rattle.pb_typed.specs.Carrying.{name_at, carried_at, buffer_of, count_at, type_at, data_text}
use Rattle.pb_typed.specs.Statements.{typed_all}
use Rattle.pb_typed_laws.specs.Calls.{sends, receives, broadcasts, reduces, reduces_all, KeepCalls}

-- The plain lines are these calls with the plain words. So each call of a program text has the rank, the tag and the operation of the
-- plain one; and since what is left of the pieces is the plain text, they stand in its order.
pub record ArePlainCalls (p : Program) : Type 0 where
  pub send : (label : ℕ) (to : Peer) → item_text p (mpi_send label to) ≡ sends p label to (words_text p label outgoing)
  pub recv : (label : ℕ) (from : Peer) → item_text p (mpi_recv label from) ≡ receives p label from (words_text p label incoming) (codes ", MPI_COMM_WORLD, MPI_STATUS_IGNORE);")
  pub bcast : (label : ℕ) (root : Peer) → item_text p (mpi_bcast label root) ≡ broadcasts p root (words_text p label outgoing)
  pub reduce : (label : ℕ) (op : Op) (root : Peer) → item_text p (mpi_reduce label op root) ≡ reduces p op root (buffer_text (payload_of p label) outgoing) (words_text p label incoming)
  pub allreduce : (label : ℕ) (op : Op) → item_text p (mpi_allreduce label op) ≡ reduces_all op (buffer_text (payload_of p label) outgoing) (words_text p label incoming)

-- each call of the statements keeps its place
abbrev pub CallsStay : Type 0
CallsStay = (p : Program) (types : List Carried) (d : ℕ) (body : Codes) → ArePlainCalls p × KeepCalls p types (typed_all p types d body)

-- both ends of a label have one type, and one count, or the receiver's room
pub record EndsAgreeAt (p : Program) (types : List Carried) (label : ℕ) : Type 0 where
  pub sent : data_text p types label outgoing
      ≡ joined (buffer_of (carried_at types label) p label outgoing ∷ codes ", " ∷ count_at (carried_at types label) p label outgoing ∷ codes ", " ∷ type_at (carried_at types label) p label ∷ [])
  pub received : data_text p types label incoming
      ≡ joined (buffer_of (carried_at types label) p label incoming ∷ codes ", " ∷ count_at (carried_at types label) p label incoming ∷ codes ", " ∷ type_at (carried_at types label) p label ∷ [])
  pub counts : (count_at (carried_at types label) p label outgoing ≡ count_at (carried_at types label) p label incoming) ⊎ ((element : Element) × (carried_at types label ≡ Open element) × (count_at (carried_at types label) p label incoming ≡ codes "m_" ++ name_at p label))

abbrev pub EndsAgree : Type 0
EndsAgree = (p : Program) (types : List Carried) (label : ℕ) → EndsAgreeAt p types label
