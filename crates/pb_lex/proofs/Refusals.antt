-- What a refusal says of the bytes.
use Rattle.std.proofs.Common.{◌≡◌, ℕ, List, refl, ap, ◌∙◌, inl, inr}
use Rattle.pb_text.specs.Lexemes.{Fault, bad_byte, open_comment, number_too_large, name_too_long}
use Rattle.pb_text.specs.Tokens.{IsText, IsFirstFault}
use Rattle.pb_text.specs.declared.place.Place.{Place}
use Rattle.pb_text.specs.declared.token.Token.{Token}
use Rattle.pb_lex.specs.declared.error.LexError.{LexError}
use Rattle.pb_lex.specs.declared.error.LexError.TheVariants as errors
use Rattle.pb_lex.specs.declared.error.LexFault.{LexFault}
use Rattle.pb_lex.specs.declared.error.LexFault.TheVariants as outcomes
use Rattle.pb_lex.specs.Seen.{IsRefusal, IsNoMemory, IsErrorOrNoMemory, error_at}
use Rattle.pb_lex.proofs.Ways.{one_fault, text_or_fault}

-- an error is a first fault
fault_of : (bytes : List ℕ) (error : LexError) → IsRefusal bytes (outcomes.Bad error)
    → (why : Fault) × (place : Place) × IsFirstFault bytes why place × (error ≡ error_at why place)
fault_of bytes (errors.BadByte place) refusal = (bad_byte, place, refusal, refl)
fault_of bytes (errors.OpenComment place) refusal = (open_comment, place, refusal, refl)
fault_of bytes (errors.NumberTooLarge place) refusal = (number_too_large, place, refusal, refl)
fault_of bytes (errors.NameTooLong place) refusal = (name_too_long, place, refusal, refl)

pub no_text : (bytes : List ℕ) (fault : LexFault) → IsRefusal bytes fault → (tokens : List Token) → IsText bytes tokens → IsNoMemory fault
no_text bytes (outcomes.Bad error) refusal tokens text =
    let f = fault_of bytes error refusal in absurd (text_or_fault bytes tokens f.0 f.1 text f.2)
no_text bytes outcomes.NoMemory refusal tokens text = refl

pub one_error : (bytes : List ℕ) (fault : LexFault) → IsRefusal bytes fault
    → (why : Fault) (place : Place) → IsFirstFault bytes why place → IsErrorOrNoMemory why place fault
one_error bytes (outcomes.Bad error) refusal why place first =
    let f = fault_of bytes error refusal in
    let same = one_fault bytes f.0 why f.1 place f.2 first in
    inl (ap outcomes.Bad (f.3 ∙ (λ j. error_at (same.0 j) (same.1 j))))
one_error bytes outcomes.NoMemory refusal why place first = inr refl
