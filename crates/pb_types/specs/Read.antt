-- What a reader of a types file answers.
use Rattle.std.specs.Prelude.{◌≡◌, ◌⊎◌, ℕ, Bool, true, false, List, [], ◌∷◌, ◌++◌, Result, Ok, Err}
use Rattle.pb_text.specs.declared.place.Place.{Place}
use Rattle.pb_text.specs.declared.token.Token.{Token}
use Rattle.pb_text.specs.declared.token.TokenKind.{TokenKind}
use Rattle.pb_text.specs.declared.token.TokenKind.TheVariants as kind
use Rattle.pb_text.specs.declared.token.Key.TheVariants as keys
use Rattle.pb_text.specs.Places.{first_place, place_after}
use Rattle.pb_lex.specs.Seen.{IsFirstError}
use Rattle.pb_lex.specs.declared.error.LexFault.{LexFault}
use Rattle.pb_lex.specs.declared.error.LexFault.TheVariants as lexical
use Rattle.pb_parse.specs.Parsed.{OfTokens}
use Rattle.pb_types.specs.Plain.{PlainTypes, plain_file}
use Rattle.pb_types.specs.Grammar.{IsTypesFile, IsTypesFront}
use Rattle.pb_types.specs.Unexpected.{StopsBefore, EndsEarly}
use Rattle.pb_types.specs.declared.tree.TypesFile.{TypesFile}
use Rattle.pb_types.specs.declared.fault.TypesFault.{TypesFault}
use Rattle.pb_types.specs.declared.fault.TypesFault.TheVariants as fault

abbrev pub type_token : Token
type_token = record { kind = kind.Key keys.Int32; place = first_place }

-- behind these tokens a type would go on
abbrev pub TakesType : List Token → Type 0
TakesType front = IsTypesFront (front ++ type_token ∷ [])

abbrev pub is_word : TokenKind → Bool
is_word (kind.Word w) = true
is_word other = false

-- the next token is a word
abbrev pub word_stands : List Token → Bool
word_stands [] = false
word_stands (t ∷ ts) = is_word t.kind

abbrev pub nothing_left : List Token → Bool
nothing_left [] = true
nothing_left (t ∷ ts) = false

-- a word that would be read if it were a type
abbrev pub IsTypeWord : List Token → TokenKind → Type 0
IsTypeWord front k = (is_word k ≡ true) × TakesType front

-- the first token that doesn't go on stands here
pub record Stops (ts : List Token) (place : Place) : Type 0 where
  pub token : Token
  pub rest : List Token
  pub stops : StopsBefore ts token rest
  pub at : place ≡ token.place

-- and is a word in the place of a type
pub record IsUnknownType (ts : List Token) (place : Place) : Type 0 where
  pub here : Stops ts place
  pub word : IsTypeWord here.stops.front here.token.kind

-- or anything else
pub record IsOther (ts : List Token) (place : Place) : Type 0 where
  pub here : Stops ts place
  pub other : IsTypeWord here.stops.front here.token.kind → ⊥

abbrev pub IsFault : Place → List Token → TypesFault → Type 0
IsFault end ts (fault.Lex error) = ⊥
IsFault end ts (fault.Unexpected place) = IsOther ts place ⊎ (EndsEarly ts × (place ≡ end))
IsFault end ts (fault.UnknownType place) = IsUnknownType ts place
IsFault end ts fault.NoMemory = Unit {0}

abbrev pub IsRead : Place → List Token → Result TypesFile TypesFault → Type 0
IsRead end ts (Ok f) = IsTypesFile ts (plain_file f)
IsRead end ts (Err e) = IsFault end ts e

-- What a reader of the bytes answers: the first lexical fault, or what reading the tokens gives.
abbrev pub IsTextFault : List ℕ → TypesFault → Type 0
IsTextFault bytes (fault.Lex error) = IsFirstError bytes error
IsTextFault bytes fault.NoMemory = Unit {0}
IsTextFault bytes other = OfTokens bytes (λ tokens. IsFault (place_after first_place bytes) tokens other)

abbrev pub IsReadText : List ℕ → Result TypesFile TypesFault → Type 0
IsReadText bytes (Ok f) = OfTokens bytes (λ tokens. IsTypesFile tokens (plain_file f))
IsReadText bytes (Err e) = IsTextFault bytes e

-- it gives this tree, unless memory runs out
abbrev pub Gives : PlainTypes → Result TypesFile TypesFault → Type 0
Gives file (Ok f) = plain_file f ≡ file
Gives file (Err fault.NoMemory) = Unit {0}
Gives file (Err _) = ⊥

-- the fault of a lexical one
abbrev pub lex_fault : LexFault → TypesFault
lex_fault (lexical.Bad error) = fault.Lex error
lex_fault lexical.NoMemory = fault.NoMemory
