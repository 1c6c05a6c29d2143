-- The crate's types in the words of the grammar.
use Rattle.std.specs.Prelude.{◌≡◌, ℕ, ◌≤◌, ◌⊎◌, false, List, [], ◌∷◌, ◌++◌, length, slice_index, take, drop, nat_eq}
use Rattle.std.specs.List.{All, filter}
use Rattle.pb_text.specs.Spellings.{keys, key_spelling, marks, mark_spelling}
use Rattle.pb_text.specs.declared.token.Key.{Key as Keyword}
use Rattle.pb_text.specs.declared.token.Mark.{Mark as Symbol}
use Rattle.pb_text.specs.Lexemes.{Fault, bad_byte, open_comment, number_too_large, name_too_long, gap, token, bad, lexeme}
use Rattle.pb_text.specs.Lexemes as grammar
use Rattle.pb_text.specs.Places.{place_after}
use Rattle.pb_text.specs.Tokens.{IsFirstFault, IsName, Lexes}
use Rattle.pb_text.specs.declared.limits.TheConstants.{MOST_NUMBER}
use Rattle.pb_text.specs.declared.token.Token.{Token as Item}
use Rattle.pb_text.specs.declared.place.Place.{Place}
use Rattle.pb_text.specs.declared.token.TokenKind.{TokenKind}
use Rattle.pb_text.specs.declared.token.TokenKind.TheVariants as kind
use Rattle.pb_lex.specs.declared.lexeme.Sort.{Sort}
use Rattle.pb_lex.specs.declared.lexeme.Sort.TheVariants.{Gap, Line, Name, Key, Number, Mark, Bad}
use Rattle.pb_lex.specs.declared.lexeme.Fault.TheVariants as faults
use Rattle.pb_lex.specs.declared.error.LexError.{LexError}
use Rattle.pb_lex.specs.declared.error.LexError.TheVariants as errors
use Rattle.pb_lex.specs.declared.error.LexFault.{LexFault}
use Rattle.pb_lex.specs.declared.error.LexFault.TheVariants as outcomes
use Rattle.pb_lex.specs.declared.lexeme.Fault.{Fault as Kind}

abbrev pub fault_seen : Kind → Fault
fault_seen faults.BadByte = bad_byte
fault_seen faults.OpenComment = open_comment
fault_seen faults.NumberTooLarge = number_too_large
fault_seen faults.NameTooLong = name_too_long

-- the keywords of so many letters
unfoldable pub keys_of : ℕ → List Keyword
keys_of len = filter (λ key. nat_eq (length (key_spelling key)) len) keys

-- the symbols that begin with this byte
unfoldable pub marks_of : ℕ → List Symbol
marks_of byte = filter (λ mark. nat_eq (slice_index (mark_spelling mark) 0) byte) marks

-- what these bytes, so many of the text, are in the grammar
abbrev pub lexeme_seen : Sort → ℕ → List ℕ → grammar.Lexeme
lexeme_seen Gap len text = gap len
lexeme_seen Line len text = gap len
lexeme_seen Name len text = token (kind.Word (take len text)) len
lexeme_seen (Key key) len text = token (kind.Key key) len
lexeme_seen (Number n) len text = token (kind.Number n) len
lexeme_seen (Mark mark) len text = token (kind.Mark mark) len
lexeme_seen (Bad fault) len text = bad (fault_seen fault)

-- the text begins with gaps in a row, of so many bytes in all
abbrev pub AreGaps : ℕ → List ℕ → Type 0
AreGaps len text = (place : Place) → Lexes (place_after place (take len text)) (drop len text) place text []

-- the text begins with gaps, or with another lexeme
abbrev pub IsBegun : Sort → ℕ → List ℕ → Type 0
IsBegun Gap len text = AreGaps len text
IsBegun Line len text = lexeme_seen Line len text ≡ lexeme text
IsBegun Name len text = lexeme_seen Name len text ≡ lexeme text
IsBegun (Key key) len text = lexeme_seen (Key key) len text ≡ lexeme text
IsBegun (Number n) len text = lexeme_seen (Number n) len text ≡ lexeme text
IsBegun (Mark mark) len text = lexeme_seen (Mark mark) len text ≡ lexeme text
IsBegun (Bad fault) len text = lexeme_seen (Bad fault) len text ≡ lexeme text

abbrev pub IsSound : Sort → ℕ → List ℕ → Type 0
IsSound Name len text = IsName (take len text)
IsSound (Number n) len text = n ≤ MOST_NUMBER
IsSound _ len text = Unit {0}

-- no line ends in these bytes
abbrev pub HasNoFeed : List ℕ → Type 0
HasNoFeed bytes = All (λ byte. nat_eq byte 10 ≡ false) bytes

-- a line ends in blanks and in a comment up to its end alone
abbrev pub IsLevel : Sort → ℕ → List ℕ → Type 0
IsLevel Gap len text = Unit {0}
IsLevel Line len text = HasNoFeed (take len text)
IsLevel Name len text = HasNoFeed (take len text)
IsLevel (Key key) len text = HasNoFeed (take len text)
IsLevel (Number n) len text = HasNoFeed (take len text)
IsLevel (Mark mark) len text = HasNoFeed (take len text)
IsLevel (Bad fault) len text = Unit {0}

abbrev pub error_of : Kind → Place → LexError
error_of faults.BadByte place = errors.BadByte place
error_of faults.OpenComment place = errors.OpenComment place
error_of faults.NumberTooLarge place = errors.NumberTooLarge place
error_of faults.NameTooLong place = errors.NameTooLong place

-- a token at the place goes last
abbrev pub Adds : TokenKind → Place → List Item → List Item → Type 0
Adds what place old new = new ≡ old ++ record { kind = what; place = place } ∷ []

-- the bytes at the place are read, so many of the text
abbrev pub Reads : Sort → ℕ → List ℕ → Place → List Item → List Item → Type 0
Reads Gap len text place old new = new ≡ old
Reads Line len text place old new = new ≡ old
Reads Name len text place old new = Adds (kind.Word (take len text)) place old new
Reads (Key key) len text place old new = Adds (kind.Key key) place old new
Reads (Number n) len text place old new = Adds (kind.Number n) place old new
Reads (Mark mark) len text place old new = Adds (kind.Mark mark) place old new
Reads (Bad fault) len text place old new = ⊥

-- why the bytes at the place aren't read
abbrev pub stop_of : Sort → Place → LexFault
stop_of (Bad why) place = outcomes.Bad (error_of why place)
stop_of _ place = outcomes.NoMemory

-- it is the first fault of the bytes, at its place
abbrev pub IsFirstError : List ℕ → LexError → Type 0
IsFirstError bytes (errors.BadByte place) = IsFirstFault bytes bad_byte place
IsFirstError bytes (errors.OpenComment place) = IsFirstFault bytes open_comment place
IsFirstError bytes (errors.NumberTooLarge place) = IsFirstFault bytes number_too_large place
IsFirstError bytes (errors.NameTooLong place) = IsFirstFault bytes name_too_long place

-- where memory didn't run out, it is the first fault
abbrev pub IsRefusal : List ℕ → LexFault → Type 0
IsRefusal bytes (outcomes.Bad error) = IsFirstError bytes error
IsRefusal bytes outcomes.NoMemory = Unit {0}

abbrev pub IsNoMemory : LexFault → Type 0
IsNoMemory fault = fault ≡ outcomes.NoMemory

abbrev pub error_at : Fault → Place → LexError
error_at bad_byte place = errors.BadByte place
error_at open_comment place = errors.OpenComment place
error_at number_too_large place = errors.NumberTooLarge place
error_at name_too_long place = errors.NameTooLong place

abbrev pub IsErrorOrNoMemory : Fault → Place → LexFault → Type 0
IsErrorOrNoMemory why place fault = (fault ≡ outcomes.Bad (error_at why place)) ⊎ IsNoMemory fault
