-- From bytes to tokens, and from these to the tree.
use Rattle.std.proofs.Common.{◌≡◌, ℕ, List, Result, Ok, Err, subst}
use Rattle.pb_text.specs.declared.token.Token.{Token}
use Rattle.pb_text.specs.Places.{first_place, place_after}
use Rattle.pb_text.specs.Tokens.{IsText}
use Rattle.pb_lex.specs.declared.error.LexError.{LexError}
use Rattle.pb_lex.specs.declared.error.LexError.TheVariants as errors
use Rattle.pb_lex.specs.declared.error.LexFault.{LexFault}
use Rattle.pb_lex.specs.declared.error.LexFault.TheVariants as lexical
use Rattle.pb_lex.specs.Seen.{IsFirstError, IsRefusal}
use Rattle.pb_lex.proofs.Ways.{one_text, text_or_fault}
use Rattle.pb_parse.specs.Parsed.{OfTokens, lex_fault}
use Rattle.pb_parse.specs.declared.fault.ParseFault.{ParseFault}
use Rattle.pb_parse.specs.declared.fault.ParseFault.TheVariants as fault
use Rattle.pb_do_parse.specs.Limits.{AreWithin}
use Rattle.pb_strips_syntax.specs.declared.tree.StripTree.{StripTree}
use Rattle.pb_strips_syntax.specs.Strips.{PlainStripFile}
use Rattle.pb_strips_grammar.specs.Tokens.{tokens_here}
use Rattle.pb_strips_grammar.specs.Grammar.{IsStripFile}
use Rattle.pb_strips_parse.specs.Parsed.{IsRead, IsReadText, IsTextFault, Gives}
use Rattle.pb_strips_parse.proofs.Together.{only}

-- a text has no lexical fault
no_error : (bytes : List ℕ) (ts : List Token) (error : LexError) → IsText bytes ts → IsFirstError bytes error → ⊥
no_error bytes ts (errors.BadByte place) p q = text_or_fault bytes ts _ place p q
no_error bytes ts (errors.OpenComment place) p q = text_or_fault bytes ts _ place p q
no_error bytes ts (errors.NumberTooLarge place) p q = text_or_fault bytes ts _ place p q
no_error bytes ts (errors.NameTooLong place) p q = text_or_fault bytes ts _ place p q

pub refused_text : (bytes : List ℕ) (fault : LexFault) → IsRefusal bytes fault → IsTextFault bytes (lex_fault fault)
refused_text bytes (lexical.Bad error) h = h
refused_text bytes lexical.NoMemory h = tt

pub read_text : (bytes : List ℕ) (ts : List Token) (result : Result StripTree ParseFault) → IsText bytes ts → IsRead (place_after first_place bytes) (tokens_here ts) result → IsReadText bytes result
read_text bytes ts (Ok f) text p = (ts, text, p)
read_text bytes ts (Err (fault.Lex error)) text p = absurd p
read_text bytes ts (Err fault.NoMemory) text p = tt
read_text bytes ts (Err (fault.Unexpected place)) text p = (ts, text, p)
read_text bytes ts (Err (fault.TooDeep place)) text p = (ts, text, p)
read_text bytes ts (Err (fault.TooMany limit place)) text p = (ts, text, p)

only_of : (bytes : List ℕ) (result : Result StripTree ParseFault) (tokens : List Token) (file : PlainStripFile) → IsText bytes tokens → IsStripFile (tokens_here tokens) file → AreWithin (tokens_here tokens) → OfTokens bytes (λ ts. IsRead (place_after first_place bytes) (tokens_here ts) result) → Gives file result
only_of bytes result tokens file text h within p =
    let same : tokens ≡ p.0 = one_text bytes tokens p.0 text p.1 in
    only (place_after first_place bytes) (tokens_here p.0) result p.2 file (subst (λ (ts : List Token). IsStripFile (tokens_here ts) file) same h) (subst (λ (ts : List Token). AreWithin (tokens_here ts)) same within)

pub only_text : (bytes : List ℕ) (result : Result StripTree ParseFault) → IsReadText bytes result → (tokens : List Token) (file : PlainStripFile) → IsText bytes tokens → IsStripFile (tokens_here tokens) file → AreWithin (tokens_here tokens) → Gives file result
only_text bytes (Ok f) p tokens file text h within = only_of bytes (Ok f) tokens file text h within p
only_text bytes (Err (fault.Lex error)) p tokens file text h within = absurd (no_error bytes tokens error text p)
only_text bytes (Err fault.NoMemory) p tokens file text h within = tt
only_text bytes (Err (fault.Unexpected place)) p tokens file text h within = only_of bytes (Err (fault.Unexpected place)) tokens file text h within p
only_text bytes (Err (fault.TooDeep place)) p tokens file text h within = only_of bytes (Err (fault.TooDeep place)) tokens file text h within p
only_text bytes (Err (fault.TooMany limit place)) p tokens file text h within = only_of bytes (Err (fault.TooMany limit place)) tokens file text h within p
