-- What a line is read as. It is spelled once more and compared with the line, so this takes more lines than are spelled.
use Rattle.std.specs.Prelude.{ℕ, zero, suc, not, nat_eq, nat_lt, ◌&&◌, Bool, if◌then◌else◌, List, [], ◌∷◌, ◌++◌, length, take, drop, Option, Some, None, codes}
use Rattle.std.specs.List.{prefix_len}
use Rattle.pb_text.specs.Tables.{position_of}
use Rattle.pb_affine.specs.declared.lin.Lin.{Lin}
use Rattle.pb_affine.specs.declared.guard.Guard.{Guard}
use Rattle.pb_syntax.specs.declared.tree.Payload.{Payload}
use Rattle.pb_syntax.specs.declared.tree.Payload.TheVariants.{Unit as NoWords, Int32, Uint32}
use Rattle.pb_syntax.specs.declared.tree.Op.{Op}
use Rattle.pb_syntax.specs.declared.tree.Op.TheVariants.{Min, Max, Sum}
use Rattle.pb_local.specs.declared.stmt.Peer.{Peer}
use Rattle.pb_cread_lines.specs.declared.item.Item.{Item}
use Rattle.pb_cread_lines.specs.declared.item.Item.TheVariants.{Close, ElseOpen, IfOpen, ElseIfOpen, ForOpen, OwnIs, LoopOpen, Goto, Makes, RootMakes, Takes, RootTakes, Sends, Receives, Barrier, Broadcasts, Reduces, Allreduces, Calls, Chooses, Probe, TestOpen, ElseTestOpen, Picks, Aborts, PickOpen, ElsePickOpen}
use Rattle.pb_cread_lines.specs.declared.item.Side.{Side}
use Rattle.pb_cread_lines.specs.declared.item.Side.TheVariants.{Outgoing, Incoming}
use Rattle.pb_cread_lines.specs.declared.tables.Tables.{Tables}
use Rattle.pb_cread_lines.specs.Head.{holding}
use Rattle.pb_text_read.specs.Fronts.{◌>>=◌, after}
use Rattle.pb_cread_lines.specs.Parts.{strip, number_at, offset_at, narrow, lin_at, guard_at}

-- ---- conditions, with the parenthesis behind them

unfoldable pub closed_at : List ℕ → Option (Guard × List ℕ)
closed_at bytes = guard_at bytes >>= λ g. after (strip (codes ")") g.1) (λ c. Some (g.0, c)) None

abbrev pub others_at : ℕ → List Guard → List ℕ → Option (List Guard × List ℕ)
others_at zero sofar bytes = Some (sofar, bytes)
others_at (suc n) sofar bytes = after (strip (codes " || (") bytes) (λ b. closed_at b >>= λ g. others_at n (sofar ++ g.0 ∷ []) g.1) (Some (sofar, bytes))

unfoldable pub several_at : List ℕ → Option (List Guard × List ℕ)
several_at bytes = closed_at bytes >>= λ g. others_at (length g.1) (g.0 ∷ []) g.1 >>= λ gs. after (strip (codes ")") gs.1) (λ c. Some (gs.0, c)) None

unfoldable pub cond_at : List ℕ → Option (List Guard × List ℕ)
cond_at bytes =
    after (strip (codes "(") bytes) several_at
    (after (strip (codes ")") bytes) (λ b. Some ([], b)) (closed_at bytes >>= λ g. Some (g.0 ∷ [], g.1)))

-- ---- names

abbrev pub is_inside : ℕ → Bool
is_inside c = not (nat_eq c 40)

unfoldable pub find_in : List (List ℕ) → List ℕ → Option ℕ
find_in names word = if nat_lt 0 (length word) && nat_lt (length word) 65 then position_of word names else None

-- a name up to the parenthesis behind it, by its position
unfoldable pub name_at : List (List ℕ) → List ℕ → Option (ℕ × List ℕ)
name_at names bytes = find_in names (take (prefix_len is_inside bytes) bytes) >>= λ k. Some (k, drop (prefix_len is_inside bytes) bytes)

abbrev pub peer_of : ℕ → Lin → Peer
peer_of role at = record { role = role; at = at }

unfoldable pub peer_at : Tables → List ℕ → Option (Peer × List ℕ)
peer_at t bytes =
    after (strip (codes "r_") bytes) (λ b. name_at t.roles b >>= λ k. after (strip (codes "(N, ") k.1) (λ c. lin_at c >>= λ l. Some (peer_of k.0 l.0, l.1)) None) None

-- ---- payloads

abbrev pub unsigned_of : ℕ → Payload
unsigned_of n = if nat_eq n 0 then NoWords else Uint32 n

unfoldable pub int_at : List ℕ → Option (Payload × List ℕ)
int_at bytes = number_at bytes >>= λ n. after (strip (codes ", MPI_INT32_T, ") n.1) (λ b. Some (Int32 n.0, b)) None

unfoldable pub uint_at : List ℕ → Option (Payload × List ℕ)
uint_at bytes = number_at bytes >>= λ n. after (strip (codes ", MPI_UINT32_T, ") n.1) (λ b. Some (unsigned_of n.0, b)) None

-- a buffer, its count and its type
unfoldable pub words_at : List ℕ → Option (Payload × List ℕ)
words_at bytes =
    after (strip (codes "is, ") bytes) int_at
    (after (strip (codes "ir, ") bytes) int_at (after (strip (codes "us, ") bytes) uint_at (after (strip (codes "ur, ") bytes) uint_at None)))

unfoldable pub held_at : Tables → List ℕ → Option (ℕ × List ℕ)
held_at t bytes = words_at bytes >>= λ w. holding t.payloads w.0 >>= λ k. Some (k, w.1)

unfoldable pub op_at : List ℕ → Option (Op × List ℕ)
op_at bytes = after (strip (codes "MPI_MIN") bytes) (λ b. Some (Min, b)) (after (strip (codes "MPI_MAX") bytes) (λ b. Some (Max, b)) (after (strip (codes "MPI_SUM") bytes) (λ b. Some (Sum, b)) None))

unfoldable pub reduced_words_at : Tables → List ℕ → Option ((ℕ × Op) × List ℕ)
reduced_words_at t bytes = held_at t bytes >>= λ k. op_at k.1 >>= λ o. Some ((k.0, o.0), o.1)

-- the two buffers of a reduction, with what stands behind them
unfoldable pub reduced_at : Tables → List ℕ → Option ((ℕ × Op) × List ℕ)
reduced_at t bytes = after (strip (codes "is, ") bytes) (reduced_words_at t) (after (strip (codes "us, ") bytes) (reduced_words_at t) None)

unfoldable pub buffer_at : List ℕ → Option Side
buffer_at bytes =
    after (strip (codes "is") bytes) (λ b. Some Outgoing)
    (after (strip (codes "us") bytes) (λ b. Some Outgoing) (after (strip (codes "ir") bytes) (λ b. Some Incoming) (after (strip (codes "ur") bytes) (λ b. Some Incoming) None)))

-- the side of the buffer that a kernel function is called on
unfoldable pub side_at : List ℕ → Option Side
side_at bytes = after (strip (codes "(N, R, I, ") bytes) buffer_at None

-- ---- lines

unfoldable pub test_at : List ℕ → Option ((ℕ × List Guard) × List ℕ)
test_at bytes = number_at bytes >>= λ n. after (strip (codes " && (") n.1) (λ b. cond_at b >>= λ gs. Some ((n.0, gs.0), gs.1)) None

unfoldable pub else_if_at : List ℕ → Option Item
else_if_at bytes =
    after (strip (codes "st.MPI_TAG == ") bytes) (λ b. test_at b >>= λ x. Some (ElseTestOpen x.0.0 x.0.1))
    (after (strip (codes "a == ") bytes) (λ b. number_at b >>= λ n. Some (ElsePickOpen n.0)) (cond_at bytes >>= λ gs. Some (ElseIfOpen gs.0)))

unfoldable pub closing_at : List ℕ → Option Item
closing_at bytes = after (strip (codes " else if (") bytes) else_if_at (after (strip (codes " else {") bytes) (λ b. Some ElseOpen) (Some Close))

-- the peer of which a guard says that it is the rank
abbrev pub one_rank : ℕ → Option Lin → Option Peer
one_rank role None = None
one_rank role (Some at) = Some (peer_of role at)

abbrev pub root_of : List Guard → Option Peer
root_of [] = None
root_of (g ∷ gs) = one_rank g.role g.low

unfoldable pub root_makes_at : Tables → List Guard → List ℕ → Option Item
root_makes_at t gs bytes = root_of gs >>= λ e. name_at t.labels bytes >>= λ k. Some (RootMakes e k.0)

unfoldable pub root_takes_at : Tables → List Guard → List ℕ → Option Item
root_takes_at t gs bytes = root_of gs >>= λ e. name_at t.labels bytes >>= λ k. Some (RootTakes e k.0)

unfoldable pub opened_at : Tables → List Guard → List ℕ → Option Item
opened_at t gs bytes = after (strip (codes " make_") bytes) (root_makes_at t gs) (after (strip (codes " take_") bytes) (root_takes_at t gs) (Some (IfOpen gs)))

unfoldable pub if_at : Tables → List ℕ → Option Item
if_at t bytes =
    after (strip (codes "st.MPI_TAG == ") bytes) (λ b. test_at b >>= λ x. Some (TestOpen x.0.0 x.0.1))
    (after (strip (codes "a == ") bytes) (λ b. number_at b >>= λ n. Some (PickOpen n.0)) (cond_at bytes >>= λ gs. opened_at t gs.0 gs.1))

unfoldable pub sends_at : Tables → List ℕ → Option Item
sends_at t bytes = words_at bytes >>= λ w. peer_at t w.1 >>= λ e. after (strip (codes "), ") e.1) (λ b. number_at b >>= λ n. Some (Sends n.0 e.0)) None

unfoldable pub receives_at : Tables → List ℕ → Option Item
receives_at t bytes = words_at bytes >>= λ w. peer_at t w.1 >>= λ e. after (strip (codes "), ") e.1) (λ b. number_at b >>= λ n. Some (Receives n.0 e.0)) None

unfoldable pub broadcasts_at : Tables → List ℕ → Option Item
broadcasts_at t bytes = held_at t bytes >>= λ k. peer_at t k.1 >>= λ e. Some (Broadcasts k.0 e.0)

unfoldable pub reduces_at : Tables → List ℕ → Option Item
reduces_at t bytes = reduced_at t bytes >>= λ x. after (strip (codes ", ") x.1) (λ b. peer_at t b >>= λ e. Some (Reduces x.0.0 x.0.1 e.0)) None

unfoldable pub allreduces_at : Tables → List ℕ → Option Item
allreduces_at t bytes = reduced_at t bytes >>= λ x. Some (Allreduces x.0.0 x.0.1)

unfoldable pub collective_at : Tables → List ℕ → Option Item
collective_at t bytes =
    after (strip (codes "Bcast(") bytes) (broadcasts_at t)
    (after (strip (codes "Reduce(") bytes) (reduces_at t) (after (strip (codes "Allreduce(") bytes) (allreduces_at t) (after (strip (codes "Barrier") bytes) (λ b. Some Barrier) None)))

unfoldable pub mpi_at : Tables → List ℕ → Option Item
mpi_at t bytes =
    after (strip (codes "Send(") bytes) (sends_at t)
    (after (strip (codes "Recv(") bytes) (receives_at t)
    (after (strip (codes "Probe(") bytes) (λ b. peer_at t b >>= λ e. Some (Probe e.0)) (after (strip (codes "Abort") bytes) (λ b. Some Aborts) (collective_at t bytes))))

unfoldable pub for_at : List ℕ → Option Item
for_at bytes = lin_at bytes >>= λ low. after (strip (codes "; i <= ") low.1) (λ b. lin_at b >>= λ high. Some (ForOpen low.0 high.0)) None

unfoldable pub own_at : List ℕ → Option Item
own_at bytes = offset_at bytes >>= λ z. narrow z.0 >>= λ off. Some (OwnIs off)

unfoldable pub rare_at : List ℕ → Option Item
rare_at bytes =
    after (strip (codes "for (i = ") bytes) for_at
    (after (strip (codes "i = I") bytes) own_at
    (after (strip (codes "goto L") bytes) (λ b. number_at b >>= λ n. Some (Goto n.0)) (after (strip (codes "L") bytes) (λ b. number_at b >>= λ n. Some (LoopOpen n.0)) None)))

unfoldable pub chooses_at : Tables → List ℕ → Option Item
chooses_at t bytes = after (strip (codes "_") bytes) (λ b. name_at t.kernels b >>= λ k. Some (Chooses k.0)) None

unfoldable pub assigns_at : Tables → List ℕ → Option Item
assigns_at t bytes = after (strip (codes "c") bytes) (chooses_at t) (number_at bytes >>= λ n. Some (Picks n.0))

unfoldable pub takes_at : Tables → List ℕ → Option Item
takes_at t bytes = name_at t.labels bytes >>= λ k. side_at k.1 >>= λ s. Some (Takes k.0 s)

unfoldable pub call_at : Tables → List ℕ → Option Item
call_at t bytes =
    after (strip (codes "make_") bytes) (λ b. name_at t.labels b >>= λ k. Some (Makes k.0))
    (after (strip (codes "take_") bytes) (takes_at t)
    (after (strip (codes "k_") bytes) (λ b. name_at t.kernels b >>= λ k. Some (Calls k.0)) (after (strip (codes "a = ") bytes) (assigns_at t) (rare_at bytes))))

unfoldable pub guess_at : Tables → List ℕ → Option Item
guess_at t bytes = after (strip (codes "MPI_") bytes) (mpi_at t) (after (strip (codes "}") bytes) closing_at (after (strip (codes "if (") bytes) (if_at t) (call_at t bytes)))
