-- Bytes in which no line ends.
use Rattle.std.proofs.Common.{◌≡◌, ℕ, zero, suc, ◌+◌, ◌-◌, ◌^◌, ◌≤◌, Bool, true, false, nat_eq, List, [], ◌∷◌, length, take, min, ap, refl, sym, subst, ◌∙◌, arith, if◌then◌else◌}
use Rattle.std.specs.List.{prefix_len}
use Rattle.std.proofs.lemmas.Bool.{false≢true, eqb-true}
use Rattle.pb_text.specs.Places.{place_after, place_behind, one_more}
use Rattle.pb_text.specs.Spellings.{mark_spelling, begins_with}
use Rattle.pb_text.specs.declared.place.Place.{Place}
use Rattle.pb_text.specs.declared.token.Mark.{Mark}
use Rattle.pb_text.specs.declared.token.Mark.TheVariants.{Dots, Equals, Semicolon, LeftParen, RightParen, LeftBracket, RightBracket, LeftBrace, RightBrace, Comma, Colon, Plus, Minus}
use Rattle.pb_lex.specs.Seen.{HasNoFeed}
use Rattle.pb_lex.proofs.Prefixes.{prefix_passes}
use Rattle.pb_lex.proofs.Fronts.{front_is}

no_feed_rest : (byte : ℕ) (bytes : List ℕ) → HasNoFeed (byte ∷ bytes) → HasNoFeed bytes
no_feed_rest byte bytes level = λ k d below. level (suc k) d (omega arith)

col_more : (col n : ℕ) → min (one_more col + n) (2 ^ 32 - 1) ≡ min (col + suc n) (2 ^ 32 - 1)
col_more col n = omega arith

-- only the column goes on
pub beside : (place : Place) (bytes : List ℕ) → place.col ≤ 2 ^ 32 - 1 → HasNoFeed bytes
    → place_after place bytes ≡ record { line = place.line; col = min (place.col + length bytes) (2 ^ 32 - 1) }
beside place [] few level =
    let same : place.col ≡ min (place.col + 0) (2 ^ 32 - 1) = omega arith in
    ap (λ (n : ℕ). let p : Place = record { line = place.line; col = n } in p) same
beside place (byte ∷ bytes) few level =
    let next : Place = record { line = place.line; col = one_more place.col } in
    let one : place_behind place byte ≡ next =
    ap (λ t. if t then record { line = one_more place.line; col = 1 } else record { line = place.line; col = one_more place.col }) (level 0 0 (omega arith)) in
    ap (λ p. place_after p bytes) one ∙ beside next bytes (omega arith) (no_feed_rest byte bytes level)
    ∙ ap (λ (n : ℕ). let p : Place = record { line = place.line; col = n } in p) (col_more place.col (length bytes))

by_test : (test : ℕ → Bool) → test 10 ≡ false → (byte : ℕ) (b : Bool) → nat_eq byte 10 ≡ b → test byte ≡ true → nat_eq byte 10 ≡ false
by_test test fails byte false e passes = e
by_test test fails byte true e passes =
    absurd (false≢true (sym fails ∙ ap test (sym (eqb-true byte 10 e)) ∙ passes))

-- a line feed doesn't pass the test
pub prefix_level : (test : ℕ → Bool) (text : List ℕ) → test 10 ≡ false → HasNoFeed (take (prefix_len test text) text)
prefix_level test text fails = λ k d below. by_test test fails _ _ refl (prefix_passes test text k d below)

level_more : (byte : ℕ) (bytes : List ℕ) → nat_eq byte 10 ≡ false → HasNoFeed bytes → HasNoFeed (byte ∷ bytes)
level_more byte bytes other level zero d below = other
level_more byte bytes other level (suc k) d below = level k d (omega arith)

level_one : (byte : ℕ) → nat_eq byte 10 ≡ false → HasNoFeed (byte ∷ [])
level_one byte other = level_more byte [] other (λ k d below. absurd (omega arith))

spelled_level : (mark : Mark) → HasNoFeed (mark_spelling mark)
spelled_level Dots = level_more 46 (46 ∷ []) refl (level_one 46 refl)
spelled_level Equals = level_one 61 refl
spelled_level Semicolon = level_one 59 refl
spelled_level LeftParen = level_one 40 refl
spelled_level RightParen = level_one 41 refl
spelled_level LeftBracket = level_one 91 refl
spelled_level RightBracket = level_one 93 refl
spelled_level LeftBrace = level_one 123 refl
spelled_level RightBrace = level_one 125 refl
spelled_level Comma = level_one 44 refl
spelled_level Colon = level_one 58 refl
spelled_level Plus = level_one 43 refl
spelled_level Minus = level_one 45 refl

pub mark_level : (mark : Mark) (text : List ℕ) → begins_with (mark_spelling mark) text ≡ true → HasNoFeed (take (length (mark_spelling mark)) text)
mark_level mark text begun = subst HasNoFeed (front_is (mark_spelling mark) text begun) (spelled_level mark)
