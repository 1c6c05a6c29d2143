-- What comes of a file with subprotocols is the tree of a text.
use Rattle.std.specs.Prelude.{◌≡◌, ℕ, ◌≤◌, List, length}
use Rattle.pb_text.specs.declared.limits.TheConstants.{MOST_TEXT_BYTES}
use Rattle.pb_text.specs.declared.token.Token.{Token}
use Rattle.pb_text.specs.Tokens.{IsText}
use Rattle.pb_syntax.specs.Bare.{bare_file}
use Rattle.pb_syntax.specs.Grammar.{IsFile}
use Rattle.pb_syntax.specs.Layout.{printed}
use Rattle.pb_syntax.specs.Tree.{PlainFile}
use Rattle.pb_parse.specs.Limits.{AreWithin}
use Rattle.pb_do_syntax.specs.Calls.{PlainCallFile}
use Rattle.pb_do_syntax.specs.Inlining.{IsInlined}
use Rattle.pb_do_grammar.specs.Grammar.{IsCallFile}
use Rattle.pb_do_text_laws.specs.Limits.{IsSmallFile}

-- The file is printed as a text of the grammar, within the limits and of 67,108,864 bytes at most, for the same tree,
-- places aside.
pub record IsReadable (file : PlainFile) : Type 0 where
  pub few : length (printed file) ≤ MOST_TEXT_BYTES
  pub tokens : List Token
  pub text : IsText (printed file) tokens
  pub within : AreWithin tokens
  pub tree : PlainFile
  pub whole : IsFile tokens tree
  pub alike : bare_file tree ≡ bare_file file

-- Where a text with subprotocols is within the limits, and the calls and what comes of them are, too, that is readable.
abbrev pub InlinedIsReadable : Type 0
InlinedIsReadable =
    (bytes : List ℕ) (tokens : List Token) (calls : PlainCallFile) (file : PlainFile)
    → IsText bytes tokens → IsCallFile tokens calls → IsSmallFile calls → IsInlined calls file → IsReadable file
