-- Which bytes are a line of statements.
use Rattle.std.specs.Prelude.{◌≡◌, ℕ, ◌/◌, ◌^◌, nat_lt, nat_eq, Bool, true, if◌then◌else◌, List, drop, Option, Some, None}
use Rattle.std.specs.List.{prefix_len}
use Rattle.pb_local.specs.Tree.{Program}
use Rattle.pb_ctree.specs.Lines as L
use Rattle.pb_ctree.specs.Small.{payload_of}
use Rattle.pb_ctree.specs.Texts.{line_bytes}
use Rattle.pb_cread_lines.specs.declared.item.Item.{Item}
use Rattle.pb_cread_lines.specs.declared.read.ReadLine.{ReadLine}
use Rattle.pb_cread_lines.specs.declared.tables.Tables.{Tables}
use Rattle.pb_cread_lines.specs.Fits.{FitsNumber, Fits}
use Rattle.pb_cread_lines.specs.Guess.{guess_at}
use Rattle.pb_cread_lines.specs.Head.{HasHead}
use Rattle.pb_text_read.specs.Fronts.{◌>>=◌}

-- the bytes are the line with this depth, without its line feed
abbrev pub IsLine : Program → List ℕ → ℕ → L.Item → Type 0
IsLine p bytes depth item = bytes ≡ line_bytes p (L.line depth item true)

-- where the tables are well made, the bytes are no line of statements
abbrev pub IsNoLine : Program → List ℕ → Type 0
IsNoLine p bytes = HasHead p → (depth : ℕ) (item : L.Item) → FitsNumber depth → Fits p item → IsLine p bytes depth item → ⊥

-- The items are one. Of a broadcast and a reduction the label isn't spelled, and another with its payload is as good.
abbrev pub IsAlike : Program → L.Item → L.Item → Type 0
IsAlike p (L.mpi_bcast label root) b = (k : ℕ) × (b ≡ L.mpi_bcast k root) × (payload_of p k ≡ payload_of p label)
IsAlike p (L.mpi_reduce label op root) b = (k : ℕ) × (b ≡ L.mpi_reduce k op root) × (payload_of p k ≡ payload_of p label)
IsAlike p (L.mpi_allreduce label op) b = (k : ℕ) × (b ≡ L.mpi_allreduce k op) × (payload_of p k ≡ payload_of p label)
IsAlike p a b = b ≡ a

-- where the tables are well made, the bytes are no other line of statements
abbrev pub IsOnlyLine : Program → List ℕ → ℕ → L.Item → Type 0
IsOnlyLine p bytes depth item = HasHead p → (d : ℕ) (i : L.Item) → FitsNumber d → Fits p i → IsLine p bytes d i → (d ≡ depth) × IsAlike p i item

abbrev pub is_space : ℕ → Bool
is_space c = nat_eq c 32

abbrev pub line_of : ℕ → Item → ReadLine
line_of depth item = record { depth = depth; item = item }

-- what the bytes are read as
unfoldable pub line_at : Tables → List ℕ → Option ReadLine
line_at t bytes =
    if nat_lt (prefix_len is_space bytes / 2) (2 ^ 32)
    then (guess_at t (drop (prefix_len is_space bytes) bytes) >>= λ i. Some (line_of (prefix_len is_space bytes / 2) i))
    else None
