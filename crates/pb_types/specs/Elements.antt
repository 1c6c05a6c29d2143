-- The types of elements: how each is called in a types file, in C and in MPI, and its size.
use Rattle.std.specs.Prelude.{ℕ, Bool, true, false, List, [], ◌∷◌, codes, find, Option, nat_eq}
use Rattle.std.specs.Cmp.Lexicographic.{pointwise}
use Rattle.pb_types.specs.declared.element.Element.{Element}
use Rattle.pb_types.specs.declared.element.Element.TheVariants.{Int8, Int16, Int32, Int64, Uint8, Uint16, Uint32, Uint64, Float, Double, FloatComplex, DoubleComplex}

-- the word of a types file
abbrev pub spelling : Element → List ℕ
spelling Int8 = codes "int8"
spelling Int16 = codes "int16"
spelling Int32 = codes "int32"
spelling Int64 = codes "int64"
spelling Uint8 = codes "uint8"
spelling Uint16 = codes "uint16"
spelling Uint32 = codes "uint32"
spelling Uint64 = codes "uint64"
spelling Float = codes "float"
spelling Double = codes "double"
spelling FloatComplex = codes "float_complex"
spelling DoubleComplex = codes "double_complex"

-- the type in C
abbrev pub c_name : Element → List ℕ
c_name Int8 = codes "int8_t"
c_name Int16 = codes "int16_t"
c_name Int32 = codes "int32_t"
c_name Int64 = codes "int64_t"
c_name Uint8 = codes "uint8_t"
c_name Uint16 = codes "uint16_t"
c_name Uint32 = codes "uint32_t"
c_name Uint64 = codes "uint64_t"
c_name Float = codes "float"
c_name Double = codes "double"
c_name FloatComplex = codes "float _Complex"
c_name DoubleComplex = codes "double _Complex"

-- the type in calls of MPI
abbrev pub mpi_name : Element → List ℕ
mpi_name Int8 = codes "MPI_INT8_T"
mpi_name Int16 = codes "MPI_INT16_T"
mpi_name Int32 = codes "MPI_INT32_T"
mpi_name Int64 = codes "MPI_INT64_T"
mpi_name Uint8 = codes "MPI_UINT8_T"
mpi_name Uint16 = codes "MPI_UINT16_T"
mpi_name Uint32 = codes "MPI_UINT32_T"
mpi_name Uint64 = codes "MPI_UINT64_T"
mpi_name Float = codes "MPI_FLOAT"
mpi_name Double = codes "MPI_DOUBLE"
mpi_name FloatComplex = codes "MPI_C_FLOAT_COMPLEX"
mpi_name DoubleComplex = codes "MPI_C_DOUBLE_COMPLEX"

-- the bytes of one element
abbrev pub size : Element → ℕ
size Int8 = 1
size Int16 = 2
size Int32 = 4
size Int64 = 8
size Uint8 = 1
size Uint16 = 2
size Uint32 = 4
size Uint64 = 8
size Float = 4
size Double = 8
size FloatComplex = 8
size DoubleComplex = 16

-- numbers of which none is greater than another
abbrev pub is_complex : Element → Bool
is_complex FloatComplex = true
is_complex DoubleComplex = true
is_complex other = false

unfoldable pub elements : List Element
elements = Int8 ∷ Int16 ∷ Int32 ∷ Int64 ∷ Uint8 ∷ Uint16 ∷ Uint32 ∷ Uint64 ∷ Float ∷ Double ∷ FloatComplex ∷ DoubleComplex ∷ []

-- the type that a word names
unfoldable pub element_named : List ℕ → Option Element
element_named word = find (λ element. pointwise nat_eq word (spelling element)) elements
