-- A text is read in one way.
use Rattle.std.proofs.Common.{◌≡◌, ℕ, List, [], ◌∷◌, take, drop, refl, sym, ap, subst, ◌∙◌}
use Rattle.pb_text.specs.Places.{place_after}
use Rattle.pb_text.specs.Lexemes.{Lexeme, nothing, gap, token, bad, Fault, lexeme}
use Rattle.pb_text.specs.Tokens.{Lexes, done, skip, read, OneText, OneFault, TextOrFault}
use Rattle.pb_text.specs.declared.place.Place.{Place}
use Rattle.pb_text.specs.declared.token.Token.{Token}
use Rattle.pb_text.specs.declared.token.TokenKind.{TokenKind}

-- nothing is read where it stands
IsLast : Lexeme → Type 0
IsLast nothing = Unit {0}
IsLast (gap len) = ⊥
IsLast (token kind len) = ⊥
IsLast (bad fault) = Unit {0}

no_gap : (text : List ℕ) (len : ℕ) → IsLast (lexeme text) → lexeme text ≡ gap len → ⊥
unfolding IsLast
no_gap text len last e = subst IsLast e last

no_token : (text : List ℕ) (kind : TokenKind) (len : ℕ) → IsLast (lexeme text) → lexeme text ≡ token kind len → ⊥
unfolding IsLast
no_token text kind len last e = subst IsLast e last

record SameEnd (end : Place) (rest : List ℕ) (tokens : List Token) (end' : Place) (rest' : List ℕ) (tokens' : List Token) : Type 0 where
  place : end ≡ end'
  left : rest ≡ rest'
  same : tokens ≡ tokens'

one_way : {end : Place} {rest : List ℕ} {end' : Place} {rest' : List ℕ} {place : Place} {bytes : List ℕ} {tokens tokens' : List Token}
    → Lexes end rest place bytes tokens → Lexes end' rest' place bytes tokens' → IsLast (lexeme rest) → IsLast (lexeme rest')
    → SameEnd end rest tokens end' rest' tokens'
one_way done done last last' = record { place = refl; left = refl; same = refl }
one_way {rest} done (skip len e way) last last' = absurd (no_gap rest len last e)
one_way {rest} done (read what len e way) last last' = absurd (no_token rest what len last e)
one_way {rest'} (skip len e way) done last last' = absurd (no_gap rest' len last' e)
one_way {end'} {rest'} {place} {bytes} {tokens'} (skip len e way) (skip len' e' way') last last' =
    let same : len' ≡ len = cc in
    one_way way (subst (λ (n : ℕ). Lexes end' rest' (place_after place (take n bytes)) (drop n bytes) tokens') same way') last last'
one_way (skip len e way) (read what len' e' way') last last' = absurd (cc)
one_way {rest'} (read what len e way) done last last' = absurd (no_token rest' what len last' e)
one_way (read what len e way) (skip len' e' way') last last' = absurd (cc)
one_way {end'} {rest'} {place} {bytes} (read {tokens} what len e way) (read {tokens = tokens'} what' len' e' way') last last' =
    let same : len' ≡ len = cc in
    let kind : what ≡ what' = cc in
    let r = one_way way (subst (λ (n : ℕ). Lexes end' rest' (place_after place (take n bytes)) (drop n bytes) tokens') same way') last last' in
    record { place = r.place; left = r.left; same = λ j. record { kind = kind j; place = place } ∷ r.same j }

last_none : IsLast (lexeme [])
unfolding lexeme IsLast
last_none = tt

last_bad : (rest : List ℕ) (fault : Fault) → lexeme rest ≡ bad fault → IsLast (lexeme rest)
unfolding IsLast
last_bad rest fault e = subst IsLast (sym e) tt

none_bad : (fault : Fault) → lexeme [] ≡ bad fault → ⊥
unfolding lexeme
none_bad fault e = cc

pub one_text : OneText
one_text bytes tokens others a b = (one_way a.1 b.1 last_none last_none).same

pub one_fault : OneFault
one_fault bytes fault other place elsewhere a b =
    let r = one_way a.2 b.2 (last_bad a.0 fault a.3) (last_bad b.0 other b.3) in
    let same : bad fault ≡ bad other = sym a.3 ∙ ap lexeme r.left ∙ b.3 in
    (cc same, r.place)

pub text_or_fault : TextOrFault
text_or_fault bytes tokens fault place a b =
    let r = one_way a.1 b.2 last_none (last_bad b.0 fault b.3) in
    none_bad fault (ap lexeme r.left ∙ b.3)
