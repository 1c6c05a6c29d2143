-- The tokens of a text, and its first lexical fault.
use Rattle.std.specs.Prelude.{◌≡◌, ℕ, ◌≤◌, ◌<◌, ◌⊎◌, List, [], ◌∷◌, take, drop, length, slice_index, true, None}
use Rattle.std.specs.List.{All}
use Rattle.pb_text.specs.Places.{first_place, place_after}
use Rattle.pb_text.specs.Lexemes.{gap, token, bad, Fault, lexeme, begins_word, goes_on_word}
use Rattle.pb_text.specs.Spellings.{key_of}
use Rattle.pb_text.specs.declared.limits.TheConstants.{MOST_NUMBER}
use Rattle.pb_text.specs.declared.place.Place.{Place}
use Rattle.pb_text.specs.declared.token.Token.{Token}
use Rattle.pb_text.specs.declared.token.TokenKind.{TokenKind}
use Rattle.pb_text.specs.declared.token.TokenKind.TheVariants as kind

-- from a place on, these bytes are these tokens, with gaps between them, up to the place `end` and the bytes `rest`
pub data Lexes (end : Place) (rest : List ℕ) : Place → List ℕ → List Token → Type 0 where
  done : Lexes end rest end rest []
  skip : {place : Place} {bytes : List ℕ} {tokens : List Token} (len : ℕ) → lexeme bytes ≡ gap len
      → Lexes end rest (place_after place (take len bytes)) (drop len bytes) tokens → Lexes end rest place bytes tokens
  read : {place : Place} {bytes : List ℕ} {tokens : List Token} (what : TokenKind) (len : ℕ) → lexeme bytes ≡ token what len
      → Lexes end rest (place_after place (take len bytes)) (drop len bytes) tokens
      → Lexes end rest place bytes (record { kind = what; place = place } ∷ tokens)

-- the bytes are a text with these tokens
abbrev pub IsText : List ℕ → List Token → Type 0
IsText bytes tokens = (end : Place) × Lexes end [] first_place bytes tokens

-- the first lexical fault of the bytes, and where it begins
abbrev pub IsFirstFault : List ℕ → Fault → Place → Type 0
IsFirstFault bytes fault place =
    (rest : List ℕ) × (tokens : List Token) × Lexes place rest first_place bytes tokens × (lexeme rest ≡ bad fault)

-- a letter or `_`, then letters, digits and `_`, 64 bytes at most, and no keyword
pub record IsName (name : List ℕ) : Type 0 where
  pub some : 0 < length name
  pub few : length name ≤ 64
  pub begins : begins_word (slice_index name 0) ≡ true
  pub goes_on : All (λ byte. goes_on_word byte ≡ true) name
  pub own : key_of name ≡ None

-- a name is one of the grammar, and a number is at most 2,000,000,000
abbrev pub IsSoundKind : TokenKind → Type 0
IsSoundKind (kind.Word name) = IsName name
IsSoundKind (kind.Key key) = Unit {0}
IsSoundKind (kind.Number n) = n ≤ MOST_NUMBER
IsSoundKind (kind.Mark mark) = Unit {0}

abbrev pub IsSoundToken : Token → Type 0
IsSoundToken t = IsSoundKind t.kind

-- a text has one list of tokens
abbrev pub OneText : Type 0
OneText = (bytes : List ℕ) (tokens others : List Token) → IsText bytes tokens → IsText bytes others → tokens ≡ others

-- bytes have one first fault, at one place
abbrev pub OneFault : Type 0
OneFault =
    (bytes : List ℕ) (fault other : Fault) (place elsewhere : Place)
    → IsFirstFault bytes fault place → IsFirstFault bytes other elsewhere → (fault ≡ other) × (place ≡ elsewhere)

-- a text has no fault
abbrev pub TextOrFault : Type 0
TextOrFault =
    (bytes : List ℕ) (tokens : List Token) (fault : Fault) (place : Place) → IsText bytes tokens → IsFirstFault bytes fault place → ⊥

-- bytes without a fault are a text
abbrev pub Readable : Type 0
Readable =
    (bytes : List ℕ) → ((tokens : List Token) × IsText bytes tokens) ⊎ ((fault : Fault) × (place : Place) × IsFirstFault bytes fault place)
