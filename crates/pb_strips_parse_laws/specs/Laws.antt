-- What is read with strips within the limits.
use Rattle.std.specs.Prelude.{◌≡◌, ℕ, List, None}
use Rattle.pb_text.specs.declared.token.Token.{Token}
use Rattle.pb_text.specs.Tokens.{IsText}
use Rattle.pb_do_parse.specs.Limits.{AreWithin}
use Rattle.pb_do_text_laws.specs.Laws.{IsReadable}
use Rattle.pb_strips_syntax.specs.Flattening.{flat_file}
use Rattle.pb_strips_syntax.specs.Strips.{PlainStripFile}
use Rattle.pb_strips_grammar.specs.Tokens.{tokens_here}
use Rattle.pb_strips_grammar.specs.Grammar.{IsStripFile}
use Rattle.pb_strips_faults.specs.Found.{HasNoFault}
use Rattle.pb_strips_flatten.specs.Excess.{excess_of}
use Rattle.pb_strips_text_laws.specs.Limits.{IsSmallFile}

-- the numbers and the branches of a file are few and small, and its braces stand so deep at most, where its tokens are
-- within the limits
abbrev pub ReadIsSmall : Type 0
ReadIsSmall = (tokens : List Token) (strips : PlainStripFile) → IsStripFile (tokens_here tokens) strips → AreWithin (tokens_here tokens) → IsSmallFile strips

-- where they are, its strips have no fault, and its flat file passes no limit, that file is readable
abbrev pub ReadFlatIsReadable : Type 0
ReadFlatIsReadable =
    (bytes : List ℕ) (tokens : List Token) (strips : PlainStripFile)
    → IsText bytes tokens → IsStripFile (tokens_here tokens) strips → AreWithin (tokens_here tokens) → HasNoFault strips
    → excess_of strips ≡ None → IsReadable (flat_file strips)
