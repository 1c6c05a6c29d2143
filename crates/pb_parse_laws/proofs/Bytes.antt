-- A text has no more tokens than bytes.
use Rattle.std.proofs.Common.{◌≡◌, ℕ, ◌<◌, ◌≤◌, Bool, true, false, ◌||◌, nat_le, List, [], ◌∷◌, length, length-drop, take, drop, Option, None, Some, if◌then◌else◌, refl, sym, subst, lit<, arith}
use Rattle.std.specs.Prelude.{codes}
use Rattle.std.specs.Char.{is_ascii_digit}
use Rattle.std.specs.List.{prefix_len}
use Rattle.std.proofs.lemmas.List.Sums.{prefix_len-drop_yes}
use Rattle.pb_text.specs.Spellings.{begins_with, mark_spelling, mark_at}
use Rattle.pb_text.specs.Lexemes.{Lexeme, nothing, gap, token, bad, lexeme, lexeme_of, begins_word, goes_on_word, is_blank, word_token, closed, close_of, number, mark_token, value_from}
use Rattle.pb_text.specs.Tokens.{Lexes, done, skip, read}
use Rattle.pb_text.specs.declared.place.Place.{Place}
use Rattle.pb_text.specs.declared.token.Token.{Token}
use Rattle.pb_text.specs.declared.token.TokenKind.{TokenKind}
use Rattle.pb_text.specs.declared.token.Key.{Key}
use Rattle.pb_text.specs.declared.token.Mark.{Mark}
use Rattle.pb_text.specs.declared.token.Mark.TheVariants.{Dots, Equals, Semicolon, LeftParen, RightParen, LeftBracket, RightBracket, LeftBrace, RightBrace, Comma, Colon, Plus, Minus}

-- where it is a token, it has some bytes
abbrev HasBytes : Lexeme → Type 0
HasBytes nothing = Unit {0}
HasBytes (gap len) = Unit {0}
HasBytes (token kind len) = 0 < len
HasBytes (bad fault) = Unit {0}

either : (test : Bool) (x y : Lexeme) → (test ≡ true → HasBytes x) → HasBytes y → HasBytes (if test then x else y)
either true x y holds other = holds refl
either false x y holds other = other

first_passes : (p : ℕ → Bool) (byte : ℕ) (bytes : List ℕ) → p byte ≡ true → 0 < prefix_len p (byte ∷ bytes)
first_passes p byte bytes h = omega (arith, prefix_len-drop_yes p (byte ∷ bytes) 0 0 (omega arith) h)

word_bytes : (name : List ℕ) (len : ℕ) (key : Option Key) → 0 < len → HasBytes (word_token name len key)
word_bytes name len None some = either (nat_le len 64) _ _ (λ _. some) tt
word_bytes name len (Some key) some = some

number_bytes : (text : List ℕ) → 0 < prefix_len is_ascii_digit text → HasBytes (number text)
number_bytes text some = either (nat_le (value_from 0 (take (prefix_len is_ascii_digit text) text)) 2000000000) _ _ (λ _. some) tt

spelled : (mark : Mark) → 0 < length (mark_spelling mark)
spelled Dots = lit< tt
spelled Equals = lit< tt
spelled Semicolon = lit< tt
spelled LeftParen = lit< tt
spelled RightParen = lit< tt
spelled LeftBracket = lit< tt
spelled RightBracket = lit< tt
spelled LeftBrace = lit< tt
spelled RightBrace = lit< tt
spelled Comma = lit< tt
spelled Colon = lit< tt
spelled Plus = lit< tt
spelled Minus = lit< tt

mark_bytes : (mark : Option Mark) → HasBytes (mark_token mark)
mark_bytes None = tt
mark_bytes (Some mark) = spelled mark

closed_bytes : (at : Option ℕ) → HasBytes (closed at)
closed_bytes None = tt
closed_bytes (Some n) = tt

widen : (d a b u : Bool) → ((a || b) || u) ≡ true → (((d || a) || b) || u) ≡ true
widen true a b u h = refl
widen false a b u h = h

begun_goes_on : (byte : ℕ) → begins_word byte ≡ true → goes_on_word byte ≡ true
begun_goes_on byte begun = widen (is_ascii_digit byte) _ _ _ begun

lexeme_bytes : (byte : ℕ) (bytes : List ℕ) → HasBytes (lexeme_of byte (byte ∷ bytes))
lexeme_bytes byte bytes =
    let text : List ℕ = byte ∷ bytes in
    either (is_blank byte) _ _ (λ _. tt) (
    either (begins_with (codes "//") text) _ _ (λ _. tt) (
    either (begins_with (codes "/*") text) _ _ (λ _. closed_bytes (close_of (drop 2 text))) (
    either (begins_word byte) _ _ (λ begun. word_bytes _ _ _ (first_passes goes_on_word byte bytes (begun_goes_on byte begun))) (
    either (is_ascii_digit byte) _ _ (λ begun. number_bytes text (first_passes is_ascii_digit byte bytes begun)) (mark_bytes (mark_at text))))))

has_bytes : (bytes : List ℕ) → HasBytes (lexeme bytes)
unfolding lexeme
has_bytes [] = tt
has_bytes (byte ∷ bytes) = lexeme_bytes byte bytes

-- a token is read from bytes
no_token : (bytes : List ℕ) (x : Lexeme) → lexeme bytes ≡ x → bytes ≡ [] → x ≡ nothing
unfolding lexeme
no_token [] x e f = sym e
no_token (byte ∷ bytes) x e f = absurd (grind arith)

token_bytes : (bytes : List ℕ) (what : TokenKind) (len : ℕ) → lexeme bytes ≡ token what len → length (drop len bytes) < length bytes
token_bytes [] what len e = absurd (empty (no_token [] (token what len) e refl))
  where
    empty : token what len ≡ nothing → ⊥
    empty f = cc
token_bytes (byte ∷ bytes) what len e =
    let some : 0 < len = subst HasBytes e (has_bytes (byte ∷ bytes)) in
    omega (arith, some, length-drop len (byte ∷ bytes))

pub tokens_few : {end : Place} {rest : List ℕ} {place : Place} {bytes : List ℕ} {tokens : List Token} → Lexes end rest place bytes tokens → length tokens ≤ length bytes
tokens_few done = omega arith
tokens_few (skip {bytes = bytes} len is more) = omega (arith, tokens_few more, length-drop len bytes)
tokens_few (read {bytes = bytes} what len is more) = omega (arith, tokens_few more, token_bytes bytes what len is)
