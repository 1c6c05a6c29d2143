-- What a reader of all the tokens of a text with strips answers. The earliest token counts, and at one token the
-- grammar comes before the limits.
use Rattle.std.specs.Prelude.{◌≡◌, ◌⊎◌, ℕ, List, [], ◌∷◌, ◌++◌, Some, Result, Ok, Err}
use Rattle.pb_text.specs.declared.place.Place.{Place}
use Rattle.pb_text.specs.declared.quantity.Quantity.{Quantity}
use Rattle.pb_text.specs.declared.quantity.Quantity.TheVariants as quantity
use Rattle.pb_text.specs.declared.token.Token.{Token}
use Rattle.pb_text.specs.Places.{first_place, place_after}
use Rattle.pb_lex.specs.Seen.{IsFirstError}
use Rattle.pb_parse.specs.Parsed.{OfTokens}
use Rattle.pb_parse.specs.declared.fault.ParseFault.{ParseFault}
use Rattle.pb_parse.specs.declared.fault.ParseFault.TheVariants as fault
use Rattle.pb_do_parse.specs.Limits.{AreWithin, passed, counts}
use Rattle.pb_strips_syntax.specs.declared.tree.StripTree.{StripTree}
use Rattle.pb_strips_syntax.specs.Strips.{PlainStripFile}
use Rattle.pb_strips_syntax.specs.Plain.{plain_file}
use Rattle.pb_strips_grammar.specs.Tokens.{tokens_here}
use Rattle.pb_strips_grammar.specs.Grammar.{IsStripFile, IsStripFront}
use Rattle.pb_strips_grammar.specs.Unexpected.{StopsBefore, EndsEarly}

-- the first token that doesn't go on stands here, and no token before it passes a limit
pub record IsUnexpected (ts : List Token) (place : Place) : Type 0 where
  pub token : Token
  pub rest : List Token
  pub stops : StopsBefore ts token rest
  pub within : AreWithin stops.front
  pub at : place ≡ token.place

-- the tokens end too early, and none of them passes a limit
pub record IsTooEarly (ts : List Token) : Type 0 where
  pub ends : EndsEarly ts
  pub within : AreWithin ts

-- the first token that passes a limit stands here, it passes this one, and the tokens up to it are a front of a file
pub record Passes (ts : List Token) (limit : Quantity) (place : Place) : Type 0 where
  pub front : List Token
  pub token : Token
  pub rest : List Token
  pub split : ts ≡ front ++ (token ∷ rest)
  pub within : AreWithin front
  pub passes : passed (counts front) token ≡ Some limit
  pub begun : IsStripFront (front ++ (token ∷ []))
  pub at : place ≡ token.place

abbrev pub IsFault : Place → List Token → ParseFault → Type 0
IsFault end ts (fault.Lex error) = ⊥
IsFault end ts (fault.Unexpected place) = IsUnexpected ts place ⊎ (IsTooEarly ts × (place ≡ end))
IsFault end ts (fault.TooDeep place) = Passes ts quantity.Nesting place
IsFault end ts (fault.TooMany limit place) = (limit ≡ quantity.Nesting → ⊥) × Passes ts limit place
IsFault end ts fault.NoMemory = Unit {0}

abbrev pub IsRead : Place → List Token → Result StripTree ParseFault → Type 0
IsRead end ts (Ok f) = IsStripFile ts (plain_file f) × AreWithin ts
IsRead end ts (Err e) = IsFault end ts e

-- What a reader of the bytes answers: the first lexical fault, or what reading the tokens gives, with the keyword `columns`
-- in its place.
abbrev pub IsTextFault : List ℕ → ParseFault → Type 0
IsTextFault bytes (fault.Lex error) = IsFirstError bytes error
IsTextFault bytes fault.NoMemory = Unit {0}
IsTextFault bytes other = OfTokens bytes (λ tokens. IsFault (place_after first_place bytes) (tokens_here tokens) other)

abbrev pub IsReadText : List ℕ → Result StripTree ParseFault → Type 0
IsReadText bytes (Ok f) = OfTokens bytes (λ tokens. IsStripFile (tokens_here tokens) (plain_file f) × AreWithin (tokens_here tokens))
IsReadText bytes (Err e) = IsTextFault bytes e

-- it gives this tree, unless memory runs out
abbrev pub Gives : PlainStripFile → Result StripTree ParseFault → Type 0
Gives file (Ok f) = plain_file f ≡ file
Gives file (Err fault.NoMemory) = Unit {0}
Gives file (Err _) = ⊥
