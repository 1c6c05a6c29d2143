-- Each list of bytes is a text or has a first fault.
use Rattle.std.proofs.Common.{◌≡◌, ℕ, zero, suc, ◌<◌, ◌≤◌, ◌⊎◌, Bool, true, false, not, nat_eq, nat_le, List, [], ◌∷◌, length, length-drop, take, drop, Option, None, Some, if◌then◌else◌, refl, ap, inl, inr, lit<, arith}
use Rattle.std.specs.Prelude.{codes}
use Rattle.std.specs.Char.{is_ascii_digit}
use Rattle.std.specs.List.{prefix_len}
use Rattle.pb_text.specs.Places.{first_place, place_after}
use Rattle.pb_text.specs.Spellings.{begins_with, mark_spelling}
use Rattle.pb_text.specs.Lexemes.{Lexeme, nothing, gap, token, bad, Fault, lexeme, lexeme_of, begins_word, goes_on_word, is_blank, word_token, closed, number, mark_token, value_from}
use Rattle.pb_text.specs.Tokens.{Lexes, done, skip, read, IsText, IsFirstFault, Readable}
use Rattle.pb_text.specs.declared.place.Place.{Place}
use Rattle.pb_text.specs.declared.token.Token.{Token}
use Rattle.pb_text.specs.declared.token.TokenKind.{TokenKind}
use Rattle.pb_text.specs.declared.token.Key.{Key}
use Rattle.pb_text.specs.declared.token.Mark.{Mark}
use Rattle.pb_text.specs.declared.token.Mark.TheVariants.{Dots, Equals, Semicolon, LeftParen, RightParen, LeftBracket, RightBracket, LeftBrace, RightBrace, Comma, Colon, Plus, Minus}
use Rattle.pb_lex.proofs.Fronts.{front_first}
use Rattle.pb_lex.proofs.Naming.{begun_goes_on}
use Rattle.pb_lex.proofs.Prefixes.{prefix_some}

-- the lexeme has some bytes, or is a fault
abbrev HasSome : Lexeme → Type 0
HasSome nothing = ⊥
HasSome (gap len) = 0 < len
HasSome (token kind len) = 0 < len
HasSome (bad fault) = Unit {0}

if_both : (test : Bool) (x y : Lexeme) → (test ≡ true → HasSome x) → (test ≡ false → HasSome y) → HasSome (if test then x else y)
if_both true x y holds fails = holds refl
if_both false x y holds fails = fails refl

word_some : (name : List ℕ) (len : ℕ) (key : Option Key) → 0 < len → HasSome (word_token name len key)
word_some name len None some = if_both (nat_le len 64) _ _ (λ _. some) (λ _. tt)
word_some name len (Some key) some = some

number_some : (text : List ℕ) → 0 < prefix_len is_ascii_digit text → HasSome (number text)
number_some text some = if_both (nat_le (value_from 0 (take (prefix_len is_ascii_digit text) text)) 2000000000) _ _ (λ _. some) (λ _. tt)

pub spelled : (mark : Mark) → 0 < length (mark_spelling mark)
spelled Dots = lit< tt
spelled Equals = lit< tt
spelled Semicolon = lit< tt
spelled LeftParen = lit< tt
spelled RightParen = lit< tt
spelled LeftBracket = lit< tt
spelled RightBracket = lit< tt
spelled LeftBrace = lit< tt
spelled RightBrace = lit< tt
spelled Comma = lit< tt
spelled Colon = lit< tt
spelled Plus = lit< tt
spelled Minus = lit< tt

mark_some : (mark : Option Mark) → HasSome (mark_token mark)
mark_some None = tt
mark_some (Some mark) = spelled mark

closed_some : (at : Option ℕ) → HasSome (closed at)
closed_some None = tt
closed_some (Some n) = omega arith

lexeme_some : (byte : ℕ) (bytes : List ℕ) → HasSome (lexeme_of byte (byte ∷ bytes))
lexeme_some byte bytes =
    let text : List ℕ = byte ∷ bytes in
    let some : 0 < length text = omega arith in
    let other = λ (b : ℕ). not (nat_eq b 10) in
    if_both (is_blank byte) _ _ (λ _. lit< tt) (λ _.
    if_both (begins_with (codes "//") text) _ _ (λ begun. prefix_some other text some (ap other (front_first (codes "//") text begun (lit< tt)))) (λ _.
    if_both (begins_with (codes "/*") text) _ _ (λ _. closed_some _) (λ _.
    if_both (begins_word byte) _ _ (λ begun. word_some _ _ _ (prefix_some goes_on_word text some (begun_goes_on byte begun))) (λ _.
    if_both (is_ascii_digit byte) _ _ (λ begun. number_some text (prefix_some is_ascii_digit text some begun)) (λ _. mark_some _)))))

abbrev Ends : Place → List ℕ → Type 0
Ends place bytes = (end : Place) × (tokens : List Token) × Lexes end [] place bytes tokens

abbrev Breaks : Place → List ℕ → Type 0
Breaks place bytes =
    (fault : Fault) × (at : Place) × (rest : List ℕ) × (tokens : List Token) × Lexes at rest place bytes tokens × (lexeme rest ≡ bad fault)

skipped : (place : Place) (bytes : List ℕ) (len : ℕ) → lexeme bytes ≡ gap len
    → Ends (place_after place (take len bytes)) (drop len bytes) ⊎ Breaks (place_after place (take len bytes)) (drop len bytes)
    → Ends place bytes ⊎ Breaks place bytes
skipped place bytes len is (inl e) = inl (e.0, e.1, skip len is e.2)
skipped place bytes len is (inr b) = inr (b.0, b.1, b.2, b.3, skip len is b.4, b.5)

token_read : (place : Place) (bytes : List ℕ) (kind : TokenKind) (len : ℕ) → lexeme bytes ≡ token kind len
    → Ends (place_after place (take len bytes)) (drop len bytes) ⊎ Breaks (place_after place (take len bytes)) (drop len bytes)
    → Ends place bytes ⊎ Breaks place bytes
token_read place bytes kind len is (inl e) = inl (e.0, record { kind = kind; place = place } ∷ e.1, read kind len is e.2)
token_read place bytes kind len is (inr b) =
    inr (b.0, b.1, b.2, record { kind = kind; place = place } ∷ b.3, read kind len is b.4, b.5)

next : (n : ℕ) (place : Place) (byte : ℕ) (bytes : List ℕ) → length bytes ≤ n
    → ((at : Place) (rest : List ℕ) → length rest ≤ n → Ends at rest ⊎ Breaks at rest)
    → (what : Lexeme) → lexeme (byte ∷ bytes) ≡ what → HasSome what → Ends place (byte ∷ bytes) ⊎ Breaks place (byte ∷ bytes)
next n place byte bytes few again nothing is some = absurd some
next n place byte bytes few again (gap len) is some =
    skipped place (byte ∷ bytes) len is (again _ _ (omega (arith, length-drop len (byte ∷ bytes))))
next n place byte bytes few again (token kind len) is some =
    token_read place (byte ∷ bytes) kind len is (again _ _ (omega (arith, length-drop len (byte ∷ bytes))))
next n place byte bytes few again (bad fault) is some = inr (fault, place, byte ∷ bytes, [], done, is)

has_some : (byte : ℕ) (bytes : List ℕ) → HasSome (lexeme (byte ∷ bytes))
unfolding lexeme
has_some byte bytes = lexeme_some byte bytes

ends_or_breaks : (n : ℕ) (place : Place) (bytes : List ℕ) → length bytes ≤ n → Ends place bytes ⊎ Breaks place bytes
ends_or_breaks n place [] few = inl (place, [], done)
ends_or_breaks zero place (byte ∷ bytes) few = absurd (omega arith)
ends_or_breaks (suc n) place (byte ∷ bytes) few =
    next n place byte bytes (omega arith) (ends_or_breaks n) (lexeme (byte ∷ bytes)) refl (has_some byte bytes)

pub readable : Readable
readable bytes = at (ends_or_breaks (length bytes) first_place bytes (omega arith))
  where
    at : Ends first_place bytes ⊎ Breaks first_place bytes
        → ((tokens : List Token) × IsText bytes tokens) ⊎ ((fault : Fault) × (place : Place) × IsFirstFault bytes fault place)
    at (inl e) = inl (e.1, (e.0, e.2))
    at (inr b) = inr (b.0, b.1, (b.2, b.3, b.4, b.5))
