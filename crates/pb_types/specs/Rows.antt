-- The row of a typed label in a program text.
use Rattle.std.specs.Prelude.{ℕ, List, [], ◌∷◌, ◌++◌, codes, decimal}
use Rattle.pb_types.specs.Elements.{spelling}
use Rattle.pb_types.specs.declared.carried.Carried.{Carried}
use Rattle.pb_types.specs.declared.carried.Carried.TheVariants.{Words, Fixed, Open}
use Rattle.pb_types.specs.declared.element.Element.{Element}

-- up to the bracket
abbrev pub type_head : List ℕ → Element → List ℕ
type_head label element = codes "/* type " ++ label ++ codes " " ++ spelling element ++ codes "["

abbrev pub row_end : List ℕ
row_end = codes "] */" ++ 10 ∷ []

-- the row, and its line feed
abbrev pub type_row : List ℕ → Carried → List ℕ
type_row label Words = []
type_row label (Fixed element count) = type_head label element ++ decimal count ++ row_end
type_row label (Open element) = type_head label element ++ row_end
