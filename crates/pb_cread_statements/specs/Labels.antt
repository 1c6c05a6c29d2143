-- Which label a line has that doesn't spell it: a broadcast and a reduction name their payload alone.
use Rattle.std.specs.Prelude.{◌≡◌, ℕ, nat_eq, Bool, true, false, cond, List, Some}
use Rattle.pb_syntax.specs.declared.tree.Payload.{Payload}
use Rattle.pb_syntax.specs.declared.tree.Payload.TheVariants.{Unit as NoWords, Int32, Uint32}
use Rattle.pb_local.specs.Tree.{Program}
use Rattle.pb_ctree.specs.Lines.{Item, mpi_bcast, mpi_reduce, mpi_allreduce}
use Rattle.pb_ctree.specs.Small.{payload_of}
use Rattle.pb_cread_lines.specs.Reading.{IsLine, IsAlike}
use Rattle.pb_cread_statements.specs.Reading.{Wanted, made, rooted, State, goes_on}

abbrev pub is_same_payload : Payload → Payload → Bool
is_same_payload NoWords NoWords = true
is_same_payload (Int32 a) (Int32 b) = nat_eq a b
is_same_payload (Uint32 a) (Uint32 b) = nat_eq a b
is_same_payload a b = false

-- this label, where it has the payload of the one that was read
abbrev pub label_for : Program → ℕ → ℕ → ℕ
label_for p same k = cond (is_same_payload (payload_of p k) (payload_of p same)) same k

-- behind a label's words
abbrev pub made_relabelled : Program → ℕ → Item → Item
made_relabelled p same (mpi_reduce k op root) = mpi_reduce (label_for p same k) op root
made_relabelled p same (mpi_allreduce k op) = mpi_allreduce (label_for p same k) op
made_relabelled p same other = other

-- behind the root's words
abbrev pub root_relabelled : Program → ℕ → Item → Item
root_relabelled p same (mpi_bcast k root) = mpi_bcast (label_for p same k) root
root_relabelled p same other = other

-- the line with the label of the statement that it belongs to
abbrev pub relabelled : Program → Wanted → Item → Item
relabelled p (made same) item = made_relabelled p same item
relabelled p (rooted same root) item = root_relabelled p same item
relabelled p other item = item

-- ---- laws

-- of all lines with the same text only the relabelled one can go on
abbrev pub OnlyOneGoesOn : Type 0
OnlyOneGoesOn = (p : Program) (s t : State) (depth : ℕ) (a b : Item) → IsAlike p a b → goes_on p s depth a ≡ Some t → relabelled p s.wanted b ≡ a

-- a line is spelled as before with its new label
abbrev pub RelabelledIsLine : Type 0
RelabelledIsLine = (p : Program) (s : State) (bytes : List ℕ) (depth : ℕ) (item : Item) → IsLine p bytes depth item → IsLine p bytes depth (relabelled p s.wanted item)
