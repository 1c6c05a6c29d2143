-- What a parser of all the tokens of a text answers. The earliest token counts, and at one token the grammar comes before
-- the limits.
use Rattle.std.specs.Prelude.{◌≡◌, ◌⊎◌, ℕ, List, [], ◌∷◌, ◌++◌, Some, Result, Ok, Err}
use Rattle.pb_text.specs.declared.place.Place.{Place}
use Rattle.pb_text.specs.declared.quantity.Quantity.{Quantity}
use Rattle.pb_text.specs.declared.quantity.Quantity.TheVariants as quantity
use Rattle.pb_text.specs.declared.token.Token.{Token}
use Rattle.pb_text.specs.Places.{first_place, place_after}
use Rattle.pb_text.specs.Tokens.{IsText}
use Rattle.pb_lex.specs.Seen.{IsFirstError}
use Rattle.pb_lex.specs.declared.error.LexFault.{LexFault}
use Rattle.pb_lex.specs.declared.error.LexFault.TheVariants as lexical
use Rattle.pb_syntax.specs.declared.tree.FileTree.{FileTree}
use Rattle.pb_syntax.specs.Tree.{PlainFile}
use Rattle.pb_syntax.specs.Plain.{plain_file}
use Rattle.pb_syntax.specs.Grammar.{IsFile, IsFront}
use Rattle.pb_syntax.specs.Bare.{bare_file}
use Rattle.pb_syntax.specs.Laws.{IsTextOf}
use Rattle.pb_syntax.specs.Unexpected.{StopsBefore, EndsEarly}
use Rattle.pb_parse.specs.Limits.{AreWithin, passed, counts}
use Rattle.pb_parse.specs.declared.fault.ParseFault.{ParseFault}
use Rattle.pb_parse.specs.declared.fault.ParseFault.TheVariants as fault

-- the first token that doesn't go on stands here, and no token before it passes a limit
pub record IsUnexpected (ts : List Token) (place : Place) : Type 0 where
  pub token : Token
  pub rest : List Token
  pub stops : StopsBefore ts token rest
  pub within : AreWithin stops.front
  pub at : place ≡ token.place

-- the tokens end too early, and none of them passes a limit
pub record IsTooEarly (ts : List Token) : Type 0 where
  pub ends : EndsEarly ts
  pub within : AreWithin ts

-- the first token that passes a limit stands here, it passes this one, and the tokens up to it are a front of a file
pub record Passes (ts : List Token) (limit : Quantity) (place : Place) : Type 0 where
  pub front : List Token
  pub token : Token
  pub rest : List Token
  pub split : ts ≡ front ++ (token ∷ rest)
  pub within : AreWithin front
  pub passes : passed (counts front) token ≡ Some limit
  pub begun : IsFront (front ++ (token ∷ []))
  pub at : place ≡ token.place

abbrev pub IsFault : Place → List Token → ParseFault → Type 0
IsFault end ts (fault.Lex error) = ⊥
IsFault end ts (fault.Unexpected place) = IsUnexpected ts place ⊎ (IsTooEarly ts × (place ≡ end))
IsFault end ts (fault.TooDeep place) = Passes ts quantity.Nesting place
IsFault end ts (fault.TooMany limit place) = (limit ≡ quantity.Nesting → ⊥) × Passes ts limit place
IsFault end ts fault.NoMemory = Unit {0}

abbrev pub IsParsed : Place → List Token → Result FileTree ParseFault → Type 0
IsParsed end ts (Ok f) = IsFile ts (plain_file f) × AreWithin ts
IsParsed end ts (Err e) = IsFault end ts e

-- What a parser of the bytes answers: the first lexical fault, or what parsing the tokens gives.
abbrev pub OfTokens : List ℕ → (List Token → Type 0) → Type 0
OfTokens bytes gives = (tokens : List Token) × IsText bytes tokens × gives tokens

abbrev pub IsTextFault : List ℕ → ParseFault → Type 0
IsTextFault bytes (fault.Lex error) = IsFirstError bytes error
IsTextFault bytes fault.NoMemory = Unit {0}
IsTextFault bytes other = OfTokens bytes (λ tokens. IsFault (place_after first_place bytes) tokens other)

abbrev pub IsParsedText : List ℕ → Result FileTree ParseFault → Type 0
IsParsedText bytes (Ok f) = OfTokens bytes (λ tokens. IsFile tokens (plain_file f) × AreWithin tokens)
IsParsedText bytes (Err e) = IsTextFault bytes e

-- the fault of a lexical one
abbrev pub lex_fault : LexFault → ParseFault
lex_fault (lexical.Bad error) = fault.Lex error
lex_fault lexical.NoMemory = fault.NoMemory

-- it gives this tree, unless memory runs out
abbrev pub Gives : PlainFile → Result FileTree ParseFault → Type 0
Gives file (Ok f) = plain_file f ≡ file
Gives file (Err fault.NoMemory) = Unit {0}
Gives file (Err _) = ⊥

-- the fault of a token that passes a limit
abbrev pub passes_fault : Quantity → Place → ParseFault
passes_fault quantity.Nesting place = fault.TooDeep place
passes_fault limit place = fault.TooMany limit place

-- the fault where reading the tokens up to one that passes a limit stops before these
abbrev pub stop_fault : Quantity → Place → List Token → ParseFault
stop_fault limit place [] = passes_fault limit place
stop_fault limit place (t ∷ ts) = fault.Unexpected t.place

-- What a text of a tree is parsed to is that tree, places aside.
abbrev pub ReadsBack : Type 0
ReadsBack = (f : PlainFile) (bytes : List ℕ) (g : FileTree) → IsTextOf bytes f → IsParsedText bytes (Ok g) → bare_file f ≡ bare_file (plain_file g)
