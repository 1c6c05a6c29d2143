-- Blanks and comments.
use Rattle.std.proofs.Common.{◌≡◌, ℕ, suc, ◌+◌, Bool, true, false, List, [], ◌∷◌, ◌++◌, cond, refl, subst, arith}
use Rattle.std.specs.List.{prefix_len}
use Rattle.pb_text.specs.Lexemes.{lexeme, gap, is_blank}
use Rattle.pb_text.specs.Tokens.{Lexes, skip, read, done}
use Rattle.pb_text.specs.declared.place.Place.{Place}
use Rattle.pb_text.specs.declared.token.Token.{Token}
use Rattle.pb_lex.specs.Seen.{AreGaps}

-- what a text begins with, and then what the rest is
pub joined : {mid end : Place} {left rest : List ℕ} {place : Place} {text : List ℕ} {before tokens : List Token}
    → Lexes mid left place text before → Lexes end rest mid left tokens → Lexes end rest place text (before ++ tokens)
joined done way = way
joined (skip len is more) way = skip len is (joined more way)
joined (read what len is more) way = read what len is (joined more way)

one_blank : (byte : ℕ) (bytes : List ℕ) → is_blank byte ≡ true → lexeme (byte ∷ bytes) ≡ gap 1
unfolding lexeme
one_blank byte bytes blank = rw blank refl

blank_more : (byte : ℕ) (bytes : List ℕ) (n : ℕ) → is_blank byte ≡ true → AreGaps n bytes → AreGaps (suc n) (byte ∷ bytes)
blank_more byte bytes n blank more = λ place. skip 1 (one_blank byte bytes blank) (more _)

blanks_more : (byte : ℕ) (bytes : List ℕ) → AreGaps (prefix_len is_blank bytes) bytes
    → (b : Bool) → is_blank byte ≡ b → AreGaps (cond b (1 + prefix_len is_blank bytes) 0) (byte ∷ bytes)
blanks_more byte bytes more true e =
    let one : suc (prefix_len is_blank bytes) ≡ 1 + prefix_len is_blank bytes = omega arith in
    subst (λ n. AreGaps n (byte ∷ bytes)) one (blank_more byte bytes (prefix_len is_blank bytes) e more)
blanks_more byte bytes more false e = λ place. done

pub blanks_are_gaps : (text : List ℕ) → AreGaps (prefix_len is_blank text) text
blanks_are_gaps [] = λ place. done
blanks_are_gaps (byte ∷ bytes) = blanks_more byte bytes (blanks_are_gaps bytes) (is_blank byte) refl
