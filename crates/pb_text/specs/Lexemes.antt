-- What a text begins with: a token, a blank or a comment, or a fault.
use Rattle.std.specs.Prelude.{ℕ, ◌+◌, ◌-◌, ◌*◌, Bool, ◌||◌, not, List, [], ◌∷◌, codes, length, take, drop, Option, None, Some, nat_eq, nat_le, if◌then◌else◌}
use Rattle.std.specs.Char.{is_ascii_alphabetic, is_ascii_alphanumeric, is_ascii_digit}
use Rattle.std.specs.List.{prefix_len}
use Rattle.pb_text.specs.Spellings.{key_of, mark_at, mark_spelling, begins_with}
use Rattle.pb_text.specs.declared.limits.TheConstants.{MOST_NUMBER}
use Rattle.pb_text.specs.declared.token.TokenKind.{TokenKind}
use Rattle.pb_text.specs.declared.token.TokenKind.TheVariants as kind
use Rattle.pb_text.specs.declared.token.Key.{Key}
use Rattle.pb_text.specs.declared.token.Mark.{Mark}

-- a byte that begins no token, a comment without an end, a number above 2,000,000,000, a name of more than 64 bytes
pub data Fault : Type 0 where
  bad_byte : Fault
  open_comment : Fault
  number_too_large : Fault
  name_too_long : Fault

-- the end of the text; a blank or a comment of so many bytes; a token of so many bytes; a fault
pub data Lexeme : Type 0 where
  nothing : Lexeme
  gap : (len : ℕ) → Lexeme
  token : (kind : TokenKind) (len : ℕ) → Lexeme
  bad : (fault : Fault) → Lexeme

-- space, tab, carriage return or line feed
abbrev pub is_blank : ℕ → Bool
is_blank byte = nat_eq byte 32 || nat_eq byte 9 || nat_eq byte 13 || nat_eq byte 10

-- a letter or `_`
abbrev pub begins_word : ℕ → Bool
begins_word byte = is_ascii_alphabetic byte || nat_eq byte 95

-- a letter, a digit or `_`
abbrev pub goes_on_word : ℕ → Bool
goes_on_word byte = is_ascii_alphanumeric byte || nat_eq byte 95

-- `//` up to the line's end
abbrev pub line_comment : List ℕ → Lexeme
line_comment text = gap (prefix_len (λ byte. not (nat_eq byte 10)) text)

abbrev pub later : ℕ → Option ℕ → Option ℕ
later n None = None
later n (Some at) = Some (at + n)

-- the number of bytes up to the next `*/`, these two with them
abbrev pub close_of : List ℕ → Option ℕ
close_of [] = None
close_of (byte ∷ bytes) = if begins_with (codes "*/") (byte ∷ bytes) then Some 2 else later 1 (close_of bytes)

-- `/*` up to the next `*/` behind it
abbrev pub closed : Option ℕ → Lexeme
closed None = bad open_comment
closed (Some n) = gap (n + 2)

abbrev pub block_comment : List ℕ → Lexeme
block_comment text = closed (close_of (drop 2 text))

-- letters, digits and `_`, as long as possible: a keyword, or else a name
abbrev pub word_token : List ℕ → ℕ → Option Key → Lexeme
word_token word len None = if nat_le len 64 then token (kind.Word word) len else bad name_too_long
word_token word len (Some key) = token (kind.Key key) len

abbrev pub word : List ℕ → Lexeme
word text = let len = prefix_len goes_on_word text in word_token (take len text) len (key_of (take len text))

-- the number that more digits make of a number
abbrev pub value_from : ℕ → List ℕ → ℕ
value_from n [] = n
value_from n (digit ∷ digits) = value_from (10 * n + (digit - 48)) digits

-- digits, as long as possible
abbrev pub number : List ℕ → Lexeme
number text =
    let len = prefix_len is_ascii_digit text in
    let value = value_from 0 (take len text) in
    if nat_le value MOST_NUMBER then token (kind.Number value) len else bad number_too_large

abbrev pub mark_token : Option Mark → Lexeme
mark_token None = bad bad_byte
mark_token (Some mark) = token (kind.Mark mark) (length (mark_spelling mark))

abbrev pub mark : List ℕ → Lexeme
mark text = mark_token (mark_at text)

-- what a text begins with, whose first byte is given too
abbrev pub lexeme_of : ℕ → List ℕ → Lexeme
lexeme_of byte text =
    if is_blank byte then gap 1
    else if begins_with (codes "//") text then line_comment text
    else if begins_with (codes "/*") text then block_comment text
    else if begins_word byte then word text
    else if is_ascii_digit byte then number text
    else mark text

unfoldable pub lexeme : List ℕ → Lexeme
lexeme [] = nothing
lexeme (byte ∷ bytes) = lexeme_of byte (byte ∷ bytes)
