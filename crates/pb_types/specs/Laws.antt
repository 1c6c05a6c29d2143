-- What holds of the grammar alone.
use Rattle.std.specs.Prelude.{◌≡◌, List, ◌++◌, ◌↔◌}
use Rattle.pb_text.specs.declared.token.Token.{Token}
use Rattle.pb_types.specs.Plain.{PlainTypes}
use Rattle.pb_types.specs.Grammar.{IsTypesFile, IsTypesFront}
use Rattle.pb_types.specs.Readers.{whole_at}
use Rattle.pb_types.specs.Unexpected.{Tells}

-- some grammatical list begins with these tokens
abbrev pub BeginsTypesFile : List Token → Type 0
BeginsTypesFile ts = (rest : List Token) × (f : PlainTypes) × IsTypesFile (ts ++ rest) f

abbrev pub FrontsBegin : Type 0
FrontsBegin = (ts : List Token) → IsTypesFront ts ↔ BeginsTypesFile ts

abbrev pub OneTree : Type 0
OneTree = (ts : List Token) (f g : PlainTypes) → IsTypesFile ts f → IsTypesFile ts g → f ≡ g

-- reading all the tokens is exact
abbrev pub WholeTells : Type 0
WholeTells = (ts : List Token) → Tells ts (whole_at ts)
