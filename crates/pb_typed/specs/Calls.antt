-- The lines of a program text's main that call kernel functions and MPI, each by itself.
use Rattle.std.specs.Prelude.{ℕ, Option, Some, None, List, [], ◌∷◌, codes, decimal}
use Rattle.pb_syntax.specs.declared.tree.Op.{Op}
use Rattle.pb_local.specs.declared.stmt.Peer.{Peer}
use Rattle.pb_local.specs.Pieces.{joined}
use Rattle.pb_local.specs.Tree.{Program}
use Rattle.pb_ctree.specs.Small.{Side, outgoing, incoming, lin_text, peer_text, root_text, op_text}
use Rattle.pb_types.specs.declared.element.Element.{Element}
use Rattle.pb_types.specs.declared.carried.Carried.{Carried}
use Rattle.pb_types.specs.declared.carried.Carried.TheVariants.{Words, Fixed, Open}
use Rattle.pb_types.specs.Elements.{c_name, mpi_name}
use Rattle.pb_typed.specs.Carrying.{name_at, carried_at, buffer_of, data_text, shared}

-- who is at the other end: one rank, by role and index, or all of them
abbrev pub end_text : Option Peer → List ℕ
end_text None = codes "-1, -1"
end_text (Some e) = joined (decimal e.role ∷ codes ", " ∷ lin_text e.at ∷ [])

-- ---- kernel functions

-- what comes behind the other end in a call of make
abbrev pub make_rest : Carried → Program → ℕ → List ℕ
make_rest Words p label = joined (codes ", " ∷ buffer_of Words p label outgoing ∷ codes ");" ∷ [])
make_rest (Fixed element number) p label = joined (codes ", s_" ∷ name_at p label ∷ codes ");" ∷ [])
make_rest (Open element) p label = joined (codes ", &n_" ∷ name_at p label ∷ codes ");" ∷ [])

-- the kernels' own memory is what make gives
abbrev pub make_front : Carried → Program → ℕ → List ℕ
make_front Words p label = joined (codes "make_" ∷ name_at p label ∷ codes "(N, R, I, " ∷ [])
make_front (Fixed element number) p label = joined (codes "make_" ∷ name_at p label ∷ codes "(N, R, I, " ∷ [])
make_front (Open element) p label = joined (codes "s_" ∷ name_at p label ∷ codes " = make_" ∷ name_at p label ∷ codes "(N, R, I, " ∷ [])

abbrev pub make_text : Program → List Carried → ℕ → Option Peer → List ℕ
make_text p types label to =
    joined (make_front (carried_at types label) p label ∷ end_text to ∷ make_rest (carried_at types label) p label ∷ [])

-- a line that only the root acts on
abbrev pub root_make_text : Program → List Carried → ℕ → Peer → Option Peer → List ℕ
root_make_text p types label root to =
    joined (codes "if (" ∷ root_text root ∷ codes ") " ∷ make_front (carried_at types label) p label ∷ end_text to ∷ make_rest (carried_at types label) p label ∷ [])

-- what comes behind the other end in a call of take
abbrev pub take_rest : Carried → Program → ℕ → Side → List ℕ
take_rest Words p label side = joined (codes ", " ∷ buffer_of Words p label side ∷ codes ");" ∷ [])
take_rest (Fixed element number) p label side = joined (codes ", " ∷ buffer_of (Fixed element number) p label side ∷ codes ");" ∷ [])
take_rest (Open element) p label side = joined (codes ", t_" ∷ name_at p label ∷ codes ", m_" ∷ name_at p label ∷ codes ");" ∷ [])

abbrev pub take_text : Program → List Carried → ℕ → Option Peer → Side → List ℕ
take_text p types label from side =
    joined (codes "take_" ∷ name_at p label ∷ codes "(N, R, I, " ∷ end_text from ∷ take_rest (carried_at types label) p label side ∷ [])

abbrev pub root_take_text : Program → List Carried → ℕ → Peer → Option Peer → Side → List ℕ
root_take_text p types label root from side =
    joined (codes "if (" ∷ root_text root ∷ codes ") take_" ∷ name_at p label ∷ codes "(N, R, I, " ∷ end_text from ∷ take_rest (carried_at types label) p label side ∷ [])

-- ---- the kernels' own memory: room, and counts that are looked at before MPI is called

abbrev pub room_text : Program → ℕ → Option Peer → List ℕ
room_text p label from =
    joined (codes "t_" ∷ name_at p label ∷ codes " = room_" ∷ name_at p label ∷ codes "(N, R, I, " ∷ end_text from ∷ codes ", &m_" ∷ name_at p label ∷ codes ");" ∷ [])

-- a message's count, and its room, aren't below 0
abbrev pub made_count : Program → ℕ → List ℕ
made_count p label = joined (codes "n_" ∷ name_at p label ∷ codes " = pabble_count(\"make_" ∷ name_at p label ∷ codes "\", n_" ∷ name_at p label ∷ codes ", 2147483647);" ∷ [])

abbrev pub room_count : Program → ℕ → List ℕ
room_count p label = joined (codes "m_" ∷ name_at p label ∷ codes " = pabble_count(\"room_" ∷ name_at p label ∷ codes "\", m_" ∷ name_at p label ∷ codes ", 2147483647);" ∷ [])

-- what came
abbrev pub came_text : Element → Program → ℕ → List ℕ
came_text element p label = joined (codes "MPI_Get_count(&st, " ∷ mpi_name element ∷ codes ", &m_" ∷ name_at p label ∷ codes ");" ∷ [])

-- the root of a broadcast shows what it made, and the others give room
abbrev pub shared_room : Element → Program → ℕ → Peer → List ℕ
shared_room element p label root =
    joined (codes "t_" ∷ name_at p label ∷ codes " = " ∷ root_text root ∷ codes " ? (" ∷ c_name element ∷ codes " *)s_" ∷ name_at p label
    ∷ codes " : room_" ∷ name_at p label ∷ codes "(N, R, I, " ∷ end_text (Some root) ∷ codes ", &m_" ∷ name_at p label ∷ codes ");" ∷ [])

abbrev pub shared_count : Program → ℕ → Peer → List ℕ
shared_count p label root =
    joined (codes "m_" ∷ name_at p label ∷ codes " = pabble_count(" ∷ root_text root ∷ codes " ? \"make_" ∷ name_at p label ∷ codes "\" : \"room_" ∷ name_at p label
    ∷ codes "\", " ∷ root_text root ∷ codes " ? n_" ∷ name_at p label ∷ codes " : m_" ∷ name_at p label ∷ codes ", 2147483647);" ∷ [])

-- the root of a reduction has room for what comes of it
abbrev pub root_room : Program → ℕ → Peer → List ℕ
root_room p label root =
    joined (codes "t_" ∷ name_at p label ∷ codes " = " ∷ root_text root ∷ codes " ? room_" ∷ name_at p label ∷ codes "(N, R, I, -1, -1, &m_" ∷ name_at p label ∷ codes ") : 0;" ∷ [])

-- a reduction's count isn't above the room
abbrev pub root_count : Program → ℕ → Peer → List ℕ
root_count p label root =
    joined (codes "m_" ∷ name_at p label ∷ codes " = pabble_count(\"make_" ∷ name_at p label ∷ codes "\", n_" ∷ name_at p label ∷ codes ", " ∷ root_text root ∷ codes " ? m_" ∷ name_at p label ∷ codes " : 2147483647);" ∷ [])

abbrev pub all_count : Program → ℕ → List ℕ
all_count p label = joined (codes "m_" ∷ name_at p label ∷ codes " = pabble_count(\"make_" ∷ name_at p label ∷ codes "\", n_" ∷ name_at p label ∷ codes ", m_" ∷ name_at p label ∷ codes ");" ∷ [])

-- ---- MPI

abbrev pub send_text : Program → List Carried → ℕ → Peer → List ℕ
send_text p types label to =
    joined (codes "MPI_Send(" ∷ data_text p types label outgoing ∷ codes ", " ∷ peer_text p to ∷ codes ", " ∷ decimal label ∷ codes ", MPI_COMM_WORLD);" ∷ [])

-- how long a message was is asked of its status
abbrev pub status_text : Carried → List ℕ
status_text Words = codes ", MPI_COMM_WORLD, MPI_STATUS_IGNORE);"
status_text (Fixed element number) = codes ", MPI_COMM_WORLD, MPI_STATUS_IGNORE);"
status_text (Open element) = codes ", MPI_COMM_WORLD, &st);"

abbrev pub recv_text : Program → List Carried → ℕ → Peer → List ℕ
recv_text p types label from =
    joined (codes "MPI_Recv(" ∷ data_text p types label incoming ∷ codes ", " ∷ peer_text p from ∷ codes ", " ∷ decimal label ∷ status_text (carried_at types label) ∷ [])

abbrev pub bcast_text : Program → List Carried → ℕ → Peer → List ℕ
bcast_text p types label root =
    joined (codes "MPI_Bcast(" ∷ data_text p types label (shared (carried_at types label)) ∷ codes ", " ∷ peer_text p root ∷ codes ", MPI_COMM_WORLD);" ∷ [])

-- a reduction has both buffers, and then count, type and operation
abbrev pub reduce_text : Program → List Carried → ℕ → Op → Peer → List ℕ
reduce_text p types label op root =
    joined (codes "MPI_Reduce(" ∷ buffer_of (carried_at types label) p label outgoing ∷ codes ", " ∷ data_text p types label incoming ∷ codes ", " ∷ op_text op ∷ codes ", " ∷ peer_text p root ∷ codes ", MPI_COMM_WORLD);" ∷ [])

abbrev pub allreduce_text : Program → List Carried → ℕ → Op → List ℕ
allreduce_text p types label op =
    joined (codes "MPI_Allreduce(" ∷ buffer_of (carried_at types label) p label outgoing ∷ codes ", " ∷ data_text p types label incoming ∷ codes ", " ∷ op_text op ∷ codes ", MPI_COMM_WORLD);" ∷ [])
