-- Pages that grow by what a draft appends.
use Rattle.std.proofs.Common.{◌≡◌, refl, ℕ, Bool, true, false, Option, Some, None, List, [], ◌∷◌, ◌++◌, codes, nat_eq, if◌then◌else◌}
use Rattle.std.specs.Fmt.{decimal}
use Rattle.pb_text.specs.declared.place.Place.{Place}
use Rattle.pb_explain_source.specs.declared.tail.Tail.{Tail}
use Rattle.pb_explain_source.specs.declared.tail.Tail.TheVariants.{Other, Colon, Line, LineColon, Column, Full, Quoted}
use Rattle.pb_explain_source.specs.Pages.{IsPage, IsPlaceOf, after_byte, empty, grown, headed, quoted}

pub with_nothing : (file bytes : List ℕ) {tail : Tail} {page : List ℕ} → tail ≡ Other → page ≡ [] → IsPage file bytes tail page
with_nothing file bytes tail_is page_is = rw (tail_is, page_is) empty

pub with_byte : (file bytes : List ℕ) {tail next : Tail} {page new : List ℕ} (byte : ℕ) → IsPage file bytes tail page
    → after_byte tail byte ≡ Some next → new ≡ page ++ byte ∷ [] → IsPage file bytes next new
with_byte file bytes byte before on new_is = rw new_is (grown byte before on)

no_none : (b : Bool) → (if b then Some Other else Some Quoted) ≡ None → ⊥
no_none true h = absurd cc
no_none false h = absurd cc

-- a dot goes on from where a byte doesn't
pub dot : (tail : Tail) (byte : ℕ) → after_byte tail byte ≡ None → after_byte tail 46 ≡ Some Other
dot Other byte h = refl
dot Colon byte h = refl
dot Line byte h = refl
dot LineColon byte h = refl
dot Column byte h = refl
dot Full byte h = refl
dot Quoted byte h = elim (no_none (nat_eq byte 10) h) [ ]

pub with_heading : (file bytes : List ℕ) {tail : Tail} (place : Place) {line col : ℕ} {page named before told between there new : List ℕ}
    → IsPage file bytes tail page → IsPlaceOf bytes place → line ≡ place.line → col ≡ place.col
    → named ≡ page ++ file → before ≡ named ++ codes ":" → told ≡ before ++ decimal line → between ≡ told ++ codes ":"
    → there ≡ between ++ decimal col → new ≡ there ++ codes ": " → IsPage file bytes Other new
with_heading file bytes place on is line_is col_is a b c d e f = rw (f, e, d, c, b, a, line_is, col_is) (headed place on is)

pub with_quote : (file bytes : List ℕ) {tail : Tail} (place : Place) {line : ℕ} {page told new : List ℕ}
    → IsPage file bytes tail page → IsPlaceOf bytes place → line ≡ place.line
    → told ≡ page ++ decimal line → new ≡ told ++ codes " | " → IsPage file bytes Quoted new
with_quote file bytes place on is line_is a b = rw (b, a, line_is) (quoted place on is)
