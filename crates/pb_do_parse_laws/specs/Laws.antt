-- What is read with subprotocols within the limits.
use Rattle.std.specs.Prelude.{ℕ, List}
use Rattle.pb_text.specs.declared.token.Token.{Token}
use Rattle.pb_text.specs.Tokens.{IsText}
use Rattle.pb_syntax.specs.Tree.{PlainFile}
use Rattle.pb_do_syntax.specs.Calls.{PlainCallFile}
use Rattle.pb_do_syntax.specs.Inlining.{IsInlined}
use Rattle.pb_do_grammar.specs.Grammar.{IsCallFile}
use Rattle.pb_do_parse.specs.Limits.{AreWithin}
use Rattle.pb_do_text_laws.specs.Limits.{IsSmallFile}
use Rattle.pb_do_text_laws.specs.Laws.{IsReadable}

-- the numbers, the branches and the roles of a file are few and small, where its tokens are within the limits
abbrev pub ReadIsSmall : Type 0
ReadIsSmall = (tokens : List Token) (calls : PlainCallFile) → IsCallFile tokens calls → AreWithin tokens → IsSmallFile calls

-- where they are, and the calls and what comes of them are, too, what comes of them is readable
abbrev pub ReadInlinedIsReadable : Type 0
ReadInlinedIsReadable =
    (bytes : List ℕ) (tokens : List Token) (calls : PlainCallFile) (file : PlainFile)
    → IsText bytes tokens → IsCallFile tokens calls → AreWithin tokens → IsInlined calls file → IsReadable file
