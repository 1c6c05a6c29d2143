-- The names that a text's tokens have are names of a text to be printed.
use Rattle.std.proofs.Common.{◌≡◌, ℕ, suc, ◌<◌, ◌≤◌, Bool, true, false, ◌||◌, nat_le, nat_lt, List, [], ◌∷◌, length, take, drop, map, get_or, Option, None, Some, if◌then◌else◌, refl, sym, subst, ◌∙◌, arith}
use Rattle.std.specs.Prelude.{codes, IsTrue}
use Rattle.std.specs.Char.{is_ascii_digit}
use Rattle.std.specs.Cmp.Lexicographic.{pointwise}
use Rattle.std.specs.Prelude.{nat_eq}
use Rattle.std.specs.List.{prefix_len, find, list_any, list_all}
use Rattle.std.proofs.lemmas.Bool.Decides.{nat_tests}
use Rattle.std.proofs.lemmas.List.Folds.{length-prefix_len}
use Rattle.std.proofs.lemmas.Slice.Eq.{bytes_eq-Decides}
use Rattle.std.proofs.lemmas.Bool.{and_from, true≢false, leb-true}
use Rattle.pb_text.specs.declared.place.Place.{Place}
use Rattle.pb_text.specs.declared.token.Token.{Token}
use Rattle.pb_text.specs.declared.token.Key.{Key}
use Rattle.pb_text.specs.declared.token.Mark.{Mark}
use Rattle.pb_text.specs.Spellings.{begins_with, key_of, key_spelling, keys, mark_at}
use Rattle.pb_text.specs.Lexemes.{Lexeme, nothing, gap, token, bad, lexeme, begins_word, goes_on_word, is_blank, word, word_token, closed, close_of, number, mark_token, value_from}
use Rattle.pb_text.specs.Tokens.{Lexes, done, skip, read, IsName, IsSoundKind}
use Rattle.pb_lex.proofs.Naming as naming
use Rattle.pb_parse.specs.declared.limits.Counts.{Counts}
use Rattle.pb_parse.specs.Limits.{NonePasses, counts_next}
use Rattle.pb_local.specs.Names.{is_letter, is_digit, is_word, is_keyword, is_name}
use Rattle.pb_compile_laws.proofs.Counted.{AreFine}

-- ---- tokens are sound

abbrev IsSound : Lexeme → Type 0
IsSound nothing = Unit {0}
IsSound (gap len) = Unit {0}
IsSound (token kind len) = IsSoundKind kind
IsSound (bad fault) = Unit {0}

either : (test : Bool) (x y : Lexeme) → (test ≡ true → IsSound x) → IsSound y → IsSound (if test then x else y)
either true x y holds other = holds refl
either false x y holds other = other

word_sound : (text : List ℕ) → 0 < length text → begins_word (get_or text 0 0) ≡ true → IsSound (word text)
word_sound text some begun = at (key_of name) refl
  where
    len : ℕ
    len = prefix_len goes_on_word text

    name : List ℕ
    name = take len text

    at : (k : Option Key) → key_of name ≡ k → IsSound (word_token name len k)
    at (Some key) e = tt
    at None e = either (nat_le len 64) _ _ (λ few. naming.is_name text name refl some begun (omega (arith, length-prefix_len goes_on_word text, leb-true len 64 few)) e) tt

number_sound : (text : List ℕ) → IsSound (number text)
number_sound text = either (nat_le (value_from 0 (take (prefix_len is_ascii_digit text) text)) 2000000000) _ _ (λ few. leb-true _ 2000000000 few) tt

mark_sound : (mark : Option Mark) → IsSound (mark_token mark)
mark_sound None = tt
mark_sound (Some mark) = tt

closed_sound : (at : Option ℕ) → IsSound (closed at)
closed_sound None = tt
closed_sound (Some n) = tt

lexeme_sound : (bytes : List ℕ) → IsSound (lexeme bytes)
unfolding lexeme
lexeme_sound [] = tt
lexeme_sound (byte ∷ bytes) =
    let text : List ℕ = byte ∷ bytes in
    either (is_blank byte) _ _ (λ _. tt) (
    either (begins_with (codes "//") text) _ _ (λ _. tt) (
    either (begins_with (codes "/*") text) _ _ (λ _. closed_sound (close_of (drop 2 text))) (
    either (begins_word byte) _ _ (λ begun. word_sound text (omega arith) begun) (
    either (is_ascii_digit byte) _ _ (λ begun. number_sound text) (mark_sound (mark_at text))))))

pub fine : {end : Place} {rest : List ℕ} {place : Place} {bytes : List ℕ} {tokens : List Token} (c : Counts) → Lexes end rest place bytes tokens → NonePasses c tokens → AreFine c tokens
fine c done h = tt
fine c (skip len is more) h = fine c more h
fine c (read {place = place} {bytes = bytes} what len is more) h = ((h.0, subst IsSound is (lexeme_sound bytes)), fine (counts_next c (record { kind = what; place = place })) more h.1)

-- ---- names

letter : (c : ℕ) → begins_word c ≡ true → is_letter c ≡ true
letter c h = h

more_letters : (d a b u : Bool) → (((d || a) || b) || u) ≡ true → (((a || b) || u) || d) ≡ true
more_letters d true b u h = refl
more_letters d false true u h = refl
more_letters d false false true h = refl
more_letters true false false false h = refl
more_letters false false false false h = h

within_word : (c : ℕ) → goes_on_word c ≡ true → (is_letter c || is_digit c) ≡ true
within_word c h = more_letters (is_ascii_digit c) _ _ _ h

each : (cs : List ℕ) → ((k d : ℕ) → k < length cs → goes_on_word (get_or cs k d) ≡ true) → list_all (λ d. is_letter d || is_digit d) cs ≡ true
each [] h = refl
each (c ∷ cs) h = and_from _ _ (within_word c (h 0 0 (omega arith))) (each cs (λ k d few. h (suc k) d (omega (arith, few))))

wordy : (w : List ℕ) → 0 < length w → begins_word (get_or w 0 0) ≡ true → ((k d : ℕ) → k < length w → goes_on_word (get_or w k d) ≡ true) → is_word w ≡ true
wordy [] some begins goes = absurd (omega arith)
wordy (c ∷ cs) some begins goes = and_from _ _ (letter c begins) (each cs (λ k d few. goes (suc k) d (omega (arith, few))))

pub swapped : (a b : List ℕ) → pointwise nat_eq a b ≡ false → pointwise nat_eq b a ≡ false
swapped a b h = at (pointwise nat_eq b a) refl
  where
    at : (t : Bool) → pointwise nat_eq b a ≡ t → pointwise nat_eq b a ≡ false
    at false e = e
    at true e = absurd (true≢false (sym ((bytes_eq-Decides a b).1 (sym ((bytes_eq-Decides b a).0 e))) ∙ h))

own_word : (w : List ℕ) (ks : List Key) → find (λ key. pointwise nat_eq w (key_spelling key)) ks ≡ None → list_any (λ k. pointwise nat_eq k w) (map key_spelling ks) ≡ false
own_word w [] h = refl
own_word w (k ∷ ks) h = at (pointwise nat_eq w (key_spelling k)) refl h (own_word w ks)
  where
    at : (t : Bool) → pointwise nat_eq w (key_spelling k) ≡ t → (if t then Some k else find (λ key. pointwise nat_eq w (key_spelling key)) ks) ≡ None
        → (find (λ key. pointwise nat_eq w (key_spelling key)) ks ≡ None → list_any (λ k. pointwise nat_eq k w) (map key_spelling ks) ≡ false) → (pointwise nat_eq (key_spelling k) w || list_any (λ k. pointwise nat_eq k w) (map key_spelling ks)) ≡ false
    at true e h rest = absurd (grind arith)
    at false e h rest = rw (swapped w (key_spelling k) e) (rest h)

no_keyword : (w : List ℕ) → key_of w ≡ None → is_keyword w ≡ false
unfolding key_of
no_keyword w h = own_word w keys h

pub named : (w : List ℕ) → IsName w → IsTrue (is_name w)
named w n = and_from _ _ (and_from _ _ (wordy w n.some n.begins n.goes_on) (few (length w) n.few)) (rw (no_keyword w n.own) refl)
  where
    few : (k : ℕ) → k ≤ 64 → nat_lt k 65 ≡ true
    few k h = grind (arith, nat_tests)
