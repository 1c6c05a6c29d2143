-- The tokens of a text are such as can be written.
use Rattle.std.proofs.Common.{◌≡◌, ℕ, suc, ◌+◌, ◌≤◌, Bool, true, false, cond, List, [], ◌∷◌, length, take, Option, Some, None, refl, sym, ap, subst, ◌∙◌, arith, nat_le, if◌then◌else◌}
use Rattle.std.specs.Prelude.{codes}
use Rattle.std.specs.Char.{is_ascii_digit}
use Rattle.std.specs.List.{prefix_len}
use Rattle.std.proofs.lemmas.List.Folds.{length-prefix_len}
use Rattle.pb_text.specs.declared.place.Place.{Place}
use Rattle.pb_text.specs.declared.token.Token.{Token}
use Rattle.pb_text.specs.declared.token.TokenKind.{TokenKind}
use Rattle.pb_text.specs.declared.token.TokenKind.TheVariants as kind
use Rattle.pb_text.specs.declared.token.Key.{Key}
use Rattle.pb_text.specs.declared.token.Mark.{Mark}
use Rattle.pb_text.specs.Spellings.{key_of, mark_at, begins_with}
use Rattle.pb_text.specs.Lexemes.{Lexeme, nothing, gap, token, bad, lexeme, is_blank, begins_word, goes_on_word, word_token, word, number, value_from, mark_token, close_of, closed}
use Rattle.pb_text.specs.Tokens.{Lexes, done, skip, read}
use Rattle.pb_syntax.proofs.Prints.{AllOf, kinds_of}
use Rattle.pb_syntax.proofs.Relex.{IsWord, IsWritten, starts}

abbrev Safe : Lexeme → Type 0
Safe nothing = Unit {0}
Safe (gap n) = Unit {0}
Safe (token k n) = IsWritten k
Safe (bad fault) = Unit {0}

safe_if : (c : Bool) (a b : Lexeme) → (c ≡ true → Safe a) → (c ≡ false → Safe b) → Safe (if c then a else b)
safe_if true a b h g = h refl
safe_if false a b h g = g refl

begins_goes : (b : ℕ) → begins_word b ≡ true → goes_on_word b ≡ true
begins_goes b h = grind (arith, h)

prefix_again : (p : ℕ → Bool) (xs : List ℕ) → prefix_len p (take (prefix_len p xs) xs) ≡ length (take (prefix_len p xs) xs)
prefix_again p [] = refl
prefix_again p (x ∷ xs) = by (p x) refl (prefix_again p xs)
  where
    by : (c : Bool) → p x ≡ c → prefix_len p (take (prefix_len p xs) xs) ≡ length (take (prefix_len p xs) xs) → prefix_len p (take (cond c (1 + prefix_len p xs) 0) (x ∷ xs)) ≡ length (take (cond c (1 + prefix_len p xs) 0) (x ∷ xs))
    by true e h =
        let one : 1 + prefix_len p xs ≡ suc (prefix_len p xs) = omega arith in
        rw (one, e) (ap (λ (n : ℕ). 1 + n) h ∙ omega arith)
    by false e h = refl

word_begins : (b : ℕ) (bs : List ℕ) → begins_word b ≡ true → starts begins_word (take (prefix_len goes_on_word (b ∷ bs)) (b ∷ bs)) ≡ true
word_begins b bs h =
    let goes : goes_on_word b ≡ true = begins_goes b h in
    let one : 1 + prefix_len goes_on_word bs ≡ suc (prefix_len goes_on_word bs) = omega arith in
    let len : prefix_len goes_on_word (b ∷ bs) ≡ suc (prefix_len goes_on_word bs) = rw goes one in
    rw len h

is_word : (b : ℕ) (bs : List ℕ) → begins_word b ≡ true → IsWord (take (prefix_len goes_on_word (b ∷ bs)) (b ∷ bs))
is_word b bs h = record { begins = word_begins b bs h; goes_on = prefix_again goes_on_word (b ∷ bs) }

safe_token : (w : List ℕ) (len : ℕ) (o : Option Key) → key_of w ≡ o → IsWord w → length w ≡ len → Safe (word_token w len o)
safe_token w len (Some key) e is same = tt
safe_token w len None e is same = safe_if (nat_le len 64) _ _ (λ most. (is, grind (arith, most, same), e)) (λ most. tt)

safe_word : (b : ℕ) (bs : List ℕ) → begins_word b ≡ true → Safe (word (b ∷ bs))
safe_word b bs h =
    let len = prefix_len goes_on_word (b ∷ bs) in
    safe_token (take len (b ∷ bs)) len (key_of (take len (b ∷ bs))) refl (is_word b bs h) (length-prefix_len goes_on_word (b ∷ bs))

safe_number : (text : List ℕ) → Safe (number text)
safe_number text = safe_if (nat_le (value_from 0 (take (prefix_len is_ascii_digit text) text)) 2000000000) _ _ (λ small. grind (arith, small)) (λ large. tt)

safe_mark : (o : Option Mark) → Safe (mark_token o)
safe_mark None = tt
safe_mark (Some m) = tt

safe_closed : (o : Option ℕ) → Safe (closed o)
safe_closed None = tt
safe_closed (Some n) = tt

safe : (bytes : List ℕ) → Safe (lexeme bytes)
unfolding lexeme
safe [] = tt
safe (b ∷ bs) =
    safe_if (is_blank b) _ _ (λ c. tt) (λ c. safe_if (begins_with (codes "//") (b ∷ bs)) _ _ (λ c. tt) (λ c. safe_if (begins_with (codes "/*") (b ∷ bs)) _ _ (λ c. safe_closed _)
    (λ c. safe_if (begins_word b) _ _ (λ h. safe_word b bs h) (λ c. safe_if (is_ascii_digit b) _ _ (λ c. safe_number (b ∷ bs)) (λ c. safe_mark (mark_at (b ∷ bs)))))))

pub text_written : {end : Place} {rest : List ℕ} {place : Place} {bytes : List ℕ} {tokens : List Token} → Lexes end rest place bytes tokens → AllOf IsWritten (kinds_of tokens)
text_written done = tt
text_written (skip len e l) = text_written l
text_written {bytes = bytes} (read what len e l) = (subst Safe e (safe bytes), text_written l)
