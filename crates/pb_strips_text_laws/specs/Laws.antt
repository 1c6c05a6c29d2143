-- The flat file of a file with strips is the tree of a text.
use Rattle.std.specs.Prelude.{◌≡◌, ℕ, List, None}
use Rattle.pb_text.specs.declared.token.Token.{Token}
use Rattle.pb_text.specs.Tokens.{IsText}
use Rattle.pb_do_text_laws.specs.Laws.{IsReadable}
use Rattle.pb_strips_syntax.specs.Flattening.{flat_file}
use Rattle.pb_strips_syntax.specs.Strips.{PlainStripFile}
use Rattle.pb_strips_grammar.specs.Tokens.{tokens_here}
use Rattle.pb_strips_grammar.specs.Grammar.{IsStripFile}
use Rattle.pb_strips_faults.specs.Found.{HasNoFault}
use Rattle.pb_strips_flatten.specs.Excess.{excess_of}
use Rattle.pb_strips_text_laws.specs.Limits.{IsSmallFile}

-- Where a text with strips is within the limits on its numbers, its branches and its braces, its strips have no fault, and
-- its flat file passes no limit, that file is readable.
abbrev pub FlatIsReadable : Type 0
FlatIsReadable =
    (bytes : List ℕ) (tokens : List Token) (strips : PlainStripFile)
    → IsText bytes tokens → IsStripFile (tokens_here tokens) strips → IsSmallFile strips → HasNoFault strips
    → excess_of strips ≡ None → IsReadable (flat_file strips)
