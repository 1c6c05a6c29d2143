-- The lines of a program text that a recorder reads. Without PABBLE_TRACE they are empty.
use Rattle.std.specs.Prelude.{ℕ, Option, Some, None, List, [], ◌∷◌, ◌++◌, codes, decimal}
use Rattle.pb_syntax.specs.declared.tree.Payload.{Payload}
use Rattle.pb_syntax.specs.declared.tree.Payload.TheVariants.{Unit as NoWords, Int32, Uint32}
use Rattle.pb_local.specs.declared.stmt.Peer.{Peer}
use Rattle.pb_local.specs.Pieces.{joined}
use Rattle.pb_local.specs.Tables.{kernel_at}
use Rattle.pb_local.specs.Tree.{Program}
use Rattle.pb_ctree.specs.Small.{Side, outgoing, incoming, peer_text, root_text, buffer_text, count_of, payload_of}
use Rattle.pb_types.specs.declared.carried.Carried.{Carried}
use Rattle.pb_types.specs.declared.carried.Carried.TheVariants.{Words, Fixed, Open}
use Rattle.pb_typed.specs.Carrying.{name_at, carried_at, buffer_of, count_at}

abbrev pub start_hook : Program → List ℕ
start_hook p = joined (codes "PABBLE(start, \"" ∷ p.protocol ∷ codes "\", rank, size);" ∷ [])

abbrev pub end_hook : List ℕ
end_hook = codes "PABBLE(end);"

abbrev pub run_hook : Program → ℕ → List ℕ
run_hook p kernel = joined (codes "PABBLE(run, \"" ∷ (kernel_at p kernel).name ∷ codes "\");" ∷ [])

-- an answer that is no branch's number stands for the last of so many branches
abbrev pub choose_hook : Program → ℕ → ℕ → List ℕ
choose_hook p kernel branches = joined (codes "PABBLE(choose, \"" ∷ (kernel_at p kernel).name ∷ codes "\", a, " ∷ decimal branches ∷ codes ");" ∷ [])

abbrev pub words_kind : Payload → List ℕ
words_kind NoWords = codes "uint32"
words_kind (Int32 number) = codes "int32"
words_kind (Uint32 number) = codes "uint32"

-- how many bytes
abbrev pub size_data : Carried → Program → ℕ → Side → List ℕ
size_data c p label side = count_at c p label side ++ (codes " * sizeof *" ++ buffer_of c p label side)

-- a checksum of the bytes, as so many words as the label has in the protocol
abbrev pub bytes_data : Carried → Program → ℕ → Side → List ℕ
bytes_data c p label side =
    codes "bytes, " ++ (decimal (count_of (payload_of p label)) ++ (codes ", " ++ ((buffer_of c p label side ++ codes ", ") ++ size_data c p label side)))

-- what is recorded of a message: its words as they are, or words made of its bytes
abbrev pub message_data : Carried → Program → ℕ → Side → List ℕ
message_data Words p label side =
    joined (words_kind (payload_of p label) ∷ codes ", " ∷ decimal (count_of (payload_of p label)) ∷ codes ", " ∷ buffer_text (payload_of p label) side ∷ [])
message_data (Fixed element number) p label side = bytes_data (Fixed element number) p label side
message_data (Open element) p label side = bytes_data (Open element) p label side

abbrev pub send_hook : Program → List Carried → ℕ → Peer → List ℕ
send_hook p types label to =
    joined (codes "PABBLE(send, " ∷ peer_text p to ∷ codes ", \"" ∷ name_at p label ∷ codes "\", " ∷ message_data (carried_at types label) p label outgoing ∷ codes ");" ∷ [])

abbrev pub recv_hook : Program → List Carried → ℕ → Peer → List ℕ
recv_hook p types label from =
    joined (codes "PABBLE(recv, " ∷ peer_text p from ∷ codes ", \"" ∷ name_at p label ∷ codes "\", " ∷ message_data (carried_at types label) p label incoming ∷ codes ");" ∷ [])

-- ---- collectives

abbrev pub barrier_enter : List ℕ
barrier_enter = codes "PABBLE(enter, \"barrier\", zero, 0);"

abbrev pub barrier_leave : List ℕ
barrier_leave = codes "PABBLE(leave, \"barrier\", zero, 0);"

-- how many words a rank has there: where a root is named, the root alone has any
abbrev pub words_there : Option Peer → ℕ → List ℕ
words_there None number = decimal number
words_there (Some root) number = joined (root_text root ∷ codes " ? " ∷ decimal number ∷ codes " : 0" ∷ [])

-- words as they are, or zeros
abbrev pub joint_data : Carried → Program → ℕ → Option Peer → Side → List ℕ
joint_data Words p label root side =
    joined (words_kind (payload_of p label) ∷ codes ", " ∷ words_there root (count_of (payload_of p label)) ∷ codes ", " ∷ buffer_text (payload_of p label) side ∷ [])
joint_data (Fixed element number) p label root side = codes "zero, " ++ words_there root (count_of (payload_of p label))
joint_data (Open element) p label root side = codes "zero, " ++ words_there root (count_of (payload_of p label))

abbrev pub enter_hook : Program → List Carried → ℕ → Option Peer → Side → List ℕ
enter_hook p types label root side =
    joined (codes "PABBLE(enter, \"" ∷ name_at p label ∷ codes "\", " ∷ joint_data (carried_at types label) p label root side ∷ codes ");" ∷ [])

abbrev pub leave_hook : Program → List Carried → ℕ → Option Peer → Side → List ℕ
leave_hook p types label root side =
    joined (codes "PABBLE(leave, \"" ∷ name_at p label ∷ codes "\", " ∷ joint_data (carried_at types label) p label root side ∷ codes ");" ∷ [])
