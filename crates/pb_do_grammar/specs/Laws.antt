-- What holds of the grammar alone.
use Rattle.std.specs.Prelude.{◌≡◌, List, ◌++◌, ◌↔◌}
use Rattle.pb_text.specs.declared.token.Token.{Token}
use Rattle.pb_do_syntax.specs.Calls.{PlainCallFile}
use Rattle.pb_do_grammar.specs.Grammar.{IsCallFile, IsCallFront}
use Rattle.pb_do_grammar.specs.Readers.{whole_at}
use Rattle.pb_do_grammar.specs.Unexpected.{Tells}

-- some grammatical list begins with these tokens
abbrev pub BeginsCallFile : List Token → Type 0
BeginsCallFile ts = (rest : List Token) × (f : PlainCallFile) × IsCallFile (ts ++ rest) f

abbrev pub FrontsBegin : Type 0
FrontsBegin = (ts : List Token) → IsCallFront ts ↔ BeginsCallFile ts

abbrev pub OneTree : Type 0
OneTree = (ts : List Token) (f g : PlainCallFile) → IsCallFile ts f → IsCallFile ts g → f ≡ g

-- reading all the tokens is exact
abbrev pub WholeTells : Type 0
WholeTells = (ts : List Token) → Tells ts (whole_at ts)
