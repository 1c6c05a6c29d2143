-- How numbers, ends, guards and ranks are spelled in C.
use Rattle.std.specs.Prelude.{ℕ, ◌+◌, ℤ, pos, negsuc, nat_eq, if◌then◌else◌, cond, List, [], ◌∷◌, ◌++◌, Option, Some, None, codes, decimal}
use Rattle.std.specs.Fmt.{signed_decimal}
use Rattle.pb_affine.specs.declared.lin.Base.{Base}
use Rattle.pb_affine.specs.declared.lin.Base.TheVariants.{Fixed, Param, Var}
use Rattle.pb_affine.specs.declared.lin.Lin.{Lin}
use Rattle.pb_affine.specs.declared.guard.Guard.{Guard}
use Rattle.pb_syntax.specs.declared.tree.Payload.{Payload}
use Rattle.pb_syntax.specs.declared.tree.Payload.TheVariants.{Unit as NoWords, Int32, Uint32}
use Rattle.pb_syntax.specs.declared.tree.Op.{Op}
use Rattle.pb_syntax.specs.declared.tree.Op.TheVariants.{Min, Max, Sum}
use Rattle.pb_local.specs.declared.stmt.Peer.{Peer}
use Rattle.pb_local.specs.Layout.{is_same_lin}
use Rattle.pb_local.specs.Pieces.{joined}
use Rattle.pb_local.specs.Ranks as R
use Rattle.pb_local.specs.Tables.{role_at, label_at}
use Rattle.pb_local.specs.Tree.{Program}

-- an offset of 0 isn't written
abbrev pub offset_text : ℤ → List ℕ
offset_text (pos n) = cond (nat_eq n 0) [] (codes " + " ++ decimal n)
offset_text (negsuc n) = codes " - " ++ decimal (n + 1)

abbrev pub based_text : Base → ℤ → List ℕ
based_text Fixed off = signed_decimal off
based_text Param off = codes "N" ++ offset_text off
based_text Var off = codes "i" ++ offset_text off

abbrev pub lin_text : Lin → List ℕ
lin_text l = based_text l.base l.off

-- the parts of a guard after its role
abbrev pub index_text : Option Lin → Option Lin → List ℕ
index_text None None = []
index_text (Some low) None = codes " && I >= " ++ lin_text low
index_text None (Some high) = codes " && I <= " ++ lin_text high
index_text (Some low) (Some high) =
    if is_same_lin low high
    then codes " && I == " ++ lin_text low
    else joined (codes " && I >= " ∷ lin_text low ∷ codes " && I <= " ∷ lin_text high ∷ [])

abbrev pub from_text : Option ℕ → List ℕ
from_text None = []
from_text (Some n) = codes " && N >= " ++ decimal n

abbrev pub to_text : Option ℕ → List ℕ
to_text None = []
to_text (Some n) = codes " && N <= " ++ decimal n

abbrev pub guard_text : Guard → List ℕ
guard_text g = joined (codes "R == " ∷ decimal g.role ∷ index_text g.low g.high ∷ from_text g.from ∷ to_text g.to ∷ [])

-- several guards stand in parentheses
abbrev pub others_text : List Guard → List ℕ
others_text [] = []
others_text (g ∷ gs) = joined (codes " || (" ∷ guard_text g ∷ codes ")" ∷ others_text gs ∷ [])

abbrev pub cond_text : List Guard → List ℕ
cond_text [] = []
cond_text (g ∷ []) = guard_text g
cond_text (g ∷ h ∷ gs) = joined (codes "(" ∷ guard_text g ∷ codes ")" ∷ others_text (h ∷ gs) ∷ [])

abbrev pub peer_text : Program → Peer → List ℕ
peer_text p e = joined (codes "r_" ∷ (role_at p e.role).name ∷ codes "(N, " ∷ lin_text e.at ∷ codes ")" ∷ [])

-- the one rank that is the root
abbrev pub root_text : Peer → List ℕ
root_text root = joined (codes "R == " ∷ decimal root.role ∷ codes " && I == " ∷ lin_text root.at ∷ [])

-- a sum in N, with its signs, zeros and ones
abbrev pub sum_text : R.Sum → List ℕ
sum_text f = joined (signed_decimal f.a ∷ codes " * N + " ∷ signed_decimal f.b ∷ [])

-- ---- payloads

-- the buffer that is sent from, and the one that is received into
pub data Side : Type 0 where
  outgoing : Side
  incoming : Side

abbrev pub buffer_text : Payload → Side → List ℕ
buffer_text (Int32 count) outgoing = codes "is"
buffer_text (Int32 count) incoming = codes "ir"
buffer_text (Uint32 count) outgoing = codes "us"
buffer_text (Uint32 count) incoming = codes "ur"
buffer_text NoWords outgoing = codes "us"
buffer_text NoWords incoming = codes "ur"

abbrev pub type_text : Payload → List ℕ
type_text (Int32 count) = codes "MPI_INT32_T"
type_text (Uint32 count) = codes "MPI_UINT32_T"
type_text NoWords = codes "MPI_UINT32_T"

abbrev pub count_of : Payload → ℕ
count_of (Int32 count) = count
count_of (Uint32 count) = count
count_of NoWords = 0

abbrev pub payload_of : Program → ℕ → Payload
payload_of p label = (label_at p label).payload

-- a buffer, its count and its type
abbrev pub words_text : Program → ℕ → Side → List ℕ
words_text p label side = joined (buffer_text (payload_of p label) side ∷ codes ", " ∷ decimal (count_of (payload_of p label)) ∷ codes ", " ∷ type_text (payload_of p label) ∷ [])

-- the call of a kernel function on a buffer
abbrev pub call_text : Program → ℕ → Side → List ℕ
call_text p label side = joined ((label_at p label).name ∷ codes "(N, R, I, " ∷ buffer_text (payload_of p label) side ∷ codes ");" ∷ [])

-- count, type and operation of a reduction, with its two buffers
abbrev pub op_text : Op → List ℕ
op_text Min = codes "MPI_MIN"
op_text Max = codes "MPI_MAX"
op_text Sum = codes "MPI_SUM"

abbrev pub reduced_text : Program → ℕ → Op → List ℕ
reduced_text p label op = joined (buffer_text (payload_of p label) outgoing ∷ codes ", " ∷ words_text p label incoming ∷ codes ", " ∷ op_text op ∷ [])
