-- The lines that statements are spelled with, each by itself.
use Rattle.std.specs.Prelude.{Bool, ℕ, ℤ, List, [], ◌∷◌, ◌++◌, codes, decimal}
use Rattle.pb_affine.specs.declared.lin.Lin.{Lin}
use Rattle.pb_affine.specs.declared.guard.Guard.{Guard}
use Rattle.pb_syntax.specs.declared.tree.Op.{Op}
use Rattle.pb_local.specs.declared.stmt.Peer.{Peer}
use Rattle.pb_local.specs.Pieces.{joined}
use Rattle.pb_local.specs.Tables.{kernel_at}
use Rattle.pb_local.specs.Tree.{Program}
use Rattle.pb_ctree.specs.Small.{offset_text, lin_text, cond_text, peer_text, root_text, Side, outgoing, incoming, words_text, call_text, reduced_text}

pub data Item : Type 0 where
  -- a line of the frame, whole
  raw : (text : List ℕ) → Item
  close : Item
  else_open : Item
  if_open : (guards : List Guard) → Item
  else_if_open : (guards : List Guard) → Item
  for_open : (low high : Lin) → Item
  own_is : (off : ℤ) → Item
  loop_open : (id : ℕ) → Item
  goto : (id : ℕ) → Item
  makes : (label : ℕ) → Item
  root_makes : (root : Peer) (label : ℕ) → Item
  takes : (label : ℕ) (side : Side) → Item
  root_takes : (root : Peer) (label : ℕ) → Item
  mpi_send : (label : ℕ) (to : Peer) → Item
  mpi_recv : (label : ℕ) (from : Peer) → Item
  mpi_barrier : Item
  mpi_bcast : (label : ℕ) (root : Peer) → Item
  mpi_reduce : (label : ℕ) (op : Op) (root : Peer) → Item
  mpi_allreduce : (label : ℕ) (op : Op) → Item
  calls : (kernel : ℕ) → Item
  chooses : (kernel : ℕ) → Item
  probe : (from : Peer) → Item
  test_open : (label : ℕ) (guards : List Guard) → Item
  else_test_open : (label : ℕ) (guards : List Guard) → Item
  picks : (branch : ℕ) → Item
  aborts : Item
  pick_open : (branch : ℕ) → Item
  else_pick_open : (branch : ℕ) → Item

-- a tag, and the ranks that hear of it
abbrev pub test_text : ℕ → List Guard → List ℕ
test_text label guards = joined (decimal label ∷ codes " && (" ∷ cond_text guards ∷ codes ")) {" ∷ [])

-- the text of a line, without indentation and line feed
abbrev pub item_text : Program → Item → List ℕ
item_text p (raw text) = text
item_text p close = codes "}"
item_text p else_open = codes "} else {"
item_text p (if_open guards) = joined (codes "if (" ∷ cond_text guards ∷ codes ") {" ∷ [])
item_text p (else_if_open guards) = joined (codes "} else if (" ∷ cond_text guards ∷ codes ") {" ∷ [])
item_text p (for_open low high) = joined (codes "for (i = " ∷ lin_text low ∷ codes "; i <= " ∷ lin_text high ∷ codes "; i++) {" ∷ [])
item_text p (own_is off) = joined (codes "i = I" ∷ offset_text off ∷ codes ";" ∷ [])
item_text p (loop_open id) = joined (codes "L" ∷ decimal id ∷ codes ": {" ∷ [])
item_text p (goto id) = joined (codes "goto L" ∷ decimal id ∷ codes ";" ∷ [])
item_text p (makes label) = codes "make_" ++ call_text p label outgoing
item_text p (root_makes root label) = joined (codes "if (" ∷ root_text root ∷ codes ") make_" ∷ call_text p label outgoing ∷ [])
item_text p (takes label side) = codes "take_" ++ call_text p label side
item_text p (root_takes root label) = joined (codes "if (" ∷ root_text root ∷ codes ") take_" ∷ call_text p label incoming ∷ [])
item_text p (mpi_send label to) = joined (codes "MPI_Send(" ∷ words_text p label outgoing ∷ codes ", " ∷ peer_text p to ∷ codes ", " ∷ decimal label ∷ codes ", MPI_COMM_WORLD);" ∷ [])
item_text p (mpi_recv label from) =
    joined (codes "MPI_Recv(" ∷ words_text p label incoming ∷ codes ", " ∷ peer_text p from ∷ codes ", " ∷ decimal label ∷ codes ", MPI_COMM_WORLD, MPI_STATUS_IGNORE);" ∷ [])
item_text p mpi_barrier = codes "MPI_Barrier(MPI_COMM_WORLD);"
item_text p (mpi_bcast label root) = joined (codes "MPI_Bcast(" ∷ words_text p label outgoing ∷ codes ", " ∷ peer_text p root ∷ codes ", MPI_COMM_WORLD);" ∷ [])
item_text p (mpi_reduce label op root) = joined (codes "MPI_Reduce(" ∷ reduced_text p label op ∷ codes ", " ∷ peer_text p root ∷ codes ", MPI_COMM_WORLD);" ∷ [])
item_text p (mpi_allreduce label op) = joined (codes "MPI_Allreduce(" ∷ reduced_text p label op ∷ codes ", MPI_COMM_WORLD);" ∷ [])
item_text p (calls kernel) = joined (codes "k_" ∷ (kernel_at p kernel).name ∷ codes "(N, R, I);" ∷ [])
item_text p (chooses kernel) = joined (codes "a = c_" ∷ (kernel_at p kernel).name ∷ codes "(N, R, I);" ∷ [])
item_text p (probe from) = joined (codes "MPI_Probe(" ∷ peer_text p from ∷ codes ", MPI_ANY_TAG, MPI_COMM_WORLD, &st);" ∷ [])
item_text p (test_open label guards) = codes "if (st.MPI_TAG == " ++ test_text label guards
item_text p (else_test_open label guards) = codes "} else if (st.MPI_TAG == " ++ test_text label guards
item_text p (picks branch) = joined (codes "a = " ∷ decimal branch ∷ codes ";" ∷ [])
item_text p aborts = codes "MPI_Abort(MPI_COMM_WORLD, 3);"
item_text p (pick_open branch) = joined (codes "if (a == " ∷ decimal branch ∷ codes ") {" ∷ [])
item_text p (else_pick_open branch) = joined (codes "} else if (a == " ∷ decimal branch ∷ codes ") {" ∷ [])

-- ---- lines

pub record Line : Type 0 where
  pub depth : ℕ
  pub item : Item
  -- what is well made of the part that this line spells
  pub kept : Bool

abbrev pub line : ℕ → Item → Bool → Line
line depth item kept = record { depth = depth; item = item; kept = kept }
