-- What holds of the grammar alone.
use Rattle.std.specs.Prelude.{◌≡◌, List, ◌++◌, ◌↔◌}
use Rattle.pb_text.specs.declared.token.Token.{Token}
use Rattle.pb_strips_syntax.specs.Strips.{PlainStripFile}
use Rattle.pb_strips_grammar.specs.Grammar.{IsStripFile, IsStripFront}
use Rattle.pb_strips_grammar.specs.Readers.{whole_at}
use Rattle.pb_strips_grammar.specs.Unexpected.{Tells}

-- some grammatical list begins with these tokens
abbrev pub BeginsStripFile : List Token → Type 0
BeginsStripFile ts = (rest : List Token) × (f : PlainStripFile) × IsStripFile (ts ++ rest) f

abbrev pub FrontsBegin : Type 0
FrontsBegin = (ts : List Token) → IsStripFront ts ↔ BeginsStripFile ts

abbrev pub OneTree : Type 0
OneTree = (ts : List Token) (f g : PlainStripFile) → IsStripFile ts f → IsStripFile ts g → f ≡ g

-- reading all the tokens is exact
abbrev pub WholeTells : Type 0
WholeTells = (ts : List Token) → Tells ts (whole_at ts)
