-- What stands in a program text for the words of a label: its buffer, its count and its type.
use Rattle.std.specs.Prelude.{ℕ, List, [], ◌∷◌, ◌++◌, codes, decimal, get_or}
use Rattle.pb_local.specs.Pieces.{joined}
use Rattle.pb_local.specs.Tables.{label_at}
use Rattle.pb_local.specs.Tree.{Program}
use Rattle.pb_ctree.specs.Small.{Side, outgoing, incoming, buffer_text, count_of, type_text, payload_of}
use Rattle.pb_types.specs.declared.carried.Carried.{Carried}
use Rattle.pb_types.specs.declared.carried.Carried.TheVariants.{Words, Fixed, Open}
use Rattle.pb_types.specs.Elements.{mpi_name}

abbrev pub name_at : Program → ℕ → List ℕ
name_at p label = (label_at p label).name

-- what a label carries; a number that no row has carries words
abbrev pub carried_at : List Carried → ℕ → Carried
carried_at types label = get_or types label Words

-- what is sent and what is received have a letter each
abbrev pub letter : Side → List ℕ
letter outgoing = codes "s_"
letter incoming = codes "t_"

-- a typed label has a buffer or a pointer of its own on each side
abbrev pub buffer_of : Carried → Program → ℕ → Side → List ℕ
buffer_of Words p label side = buffer_text (payload_of p label) side
buffer_of (Fixed element number) p label side = letter side ++ name_at p label
buffer_of (Open element) p label side = letter side ++ name_at p label

-- how many elements the kernels' own memory has: what is sent, and what there is room for or what came
abbrev pub count_letter : Side → List ℕ
count_letter outgoing = codes "n_"
count_letter incoming = codes "m_"

abbrev pub count_at : Carried → Program → ℕ → Side → List ℕ
count_at Words p label side = decimal (count_of (payload_of p label))
count_at (Fixed element number) p label side = codes "n_" ++ name_at p label
count_at (Open element) p label side = count_letter side ++ name_at p label

abbrev pub type_at : Carried → Program → ℕ → List ℕ
type_at Words p label = type_text (payload_of p label)
type_at (Fixed element number) p label = mpi_name element
type_at (Open element) p label = mpi_name element

-- a buffer, its count and its type
abbrev pub data_of : Carried → Program → ℕ → Side → List ℕ
data_of c p label side = joined (buffer_of c p label side ∷ codes ", " ∷ count_at c p label side ∷ codes ", " ∷ type_at c p label ∷ [])

abbrev pub data_text : Program → List Carried → ℕ → Side → List ℕ
data_text p types label side = data_of (carried_at types label) p label side

-- the side of a broadcast's buffer, which all ranks have: the kernels' own memory is what is received into, at the root too
abbrev pub shared : Carried → Side
shared Words = outgoing
shared (Fixed element number) = outgoing
shared (Open element) = incoming
