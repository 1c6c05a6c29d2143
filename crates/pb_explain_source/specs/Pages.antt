-- What a page tells of a file.
use Rattle.std.specs.Prelude.{◌≡◌, ℕ, ◌≤◌, List, [], ◌∷◌, ◌++◌, length, take, codes, Option, Some, None, nat_eq, if◌then◌else◌}
use Rattle.std.specs.Char.{is_ascii_digit}
use Rattle.std.specs.Fmt.{decimal}
use Rattle.pb_text.specs.Places.{first_place, place_after}
use Rattle.pb_text.specs.declared.place.Place.{Place}
use Rattle.pb_explain_source.specs.declared.tail.Tail.{Tail}
use Rattle.pb_explain_source.specs.declared.tail.Tail.TheVariants.{Other, Colon, Line, LineColon, Column, Full, Quoted}

-- the place of one of the file's bytes, or the one behind the last
pub record IsPlaceOf (bytes : List ℕ) (place : Place) : Type 0 where
  pub count : ℕ
  pub within : count ≤ length bytes
  pub there : place ≡ place_after first_place (take count bytes)

abbrev pub after_colon : Tail → Tail
after_colon Other = Colon
after_colon Colon = Colon
after_colon Line = LineColon
after_colon LineColon = Colon
after_colon Column = Full
after_colon Full = Colon
after_colon Quoted = Quoted

abbrev pub after_digit : Tail → Tail
after_digit Other = Other
after_digit Colon = Line
after_digit Line = Line
after_digit LineColon = Column
after_digit Column = Column
after_digit Full = Column
after_digit Quoted = Quoted

abbrev pub after_blank : Tail → Option Tail
after_blank Other = Some Other
after_blank Colon = Some Other
after_blank Line = Some Other
after_blank LineColon = Some Other
after_blank Column = Some Other
after_blank Full = None
after_blank Quoted = Some Quoted

-- what words end with behind one more byte. None where they tell a place then, as `:3:14: ` does
abbrev pub after_word : Tail → ℕ → Option Tail
after_word tail byte =
    if nat_eq byte 58 then Some (after_colon tail)
    else (if is_ascii_digit byte then Some (after_digit tail)
    else (if nat_eq byte 32 then after_blank tail else Some Other))

-- a line that is quoted ends with its line feed, and what stands in it are no words
abbrev pub after_byte : Tail → ℕ → Option Tail
after_byte Quoted byte = if nat_eq byte 10 then Some Other else Some Quoted
after_byte Other byte = after_word Other byte
after_byte Colon byte = after_word Colon byte
after_byte Line byte = after_word Line byte
after_byte LineColon byte = after_word LineColon byte
after_byte Column byte = after_word Column byte
after_byte Full byte = after_word Full byte

-- a page on the file with this name and these bytes, and what it ends with
pub data IsPage (file bytes : List ℕ) : Tail → List ℕ → Type 0 where
  empty : IsPage file bytes Other []
  -- a byte of words that tell no place, or of a line that is quoted
  grown : {tail next : Tail} {page : List ℕ} (byte : ℕ) → IsPage file bytes tail page → after_byte tail byte ≡ Some next
      → IsPage file bytes next (page ++ byte ∷ [])
  -- `FILE:L:C: `, of a place of the file
  headed : {tail : Tail} {page : List ℕ} (place : Place) → IsPage file bytes tail page → IsPlaceOf bytes place
      → IsPage file bytes Other (page ++ file ++ codes ":" ++ decimal place.line ++ codes ":" ++ decimal place.col ++ codes ": ")
  -- `L | `, of a line of the file, which is quoted behind it
  quoted : {tail : Tail} {page : List ℕ} (place : Place) → IsPage file bytes tail page → IsPlaceOf bytes place
      → IsPage file bytes Quoted (page ++ decimal place.line ++ codes " | ")

-- a page on a file, whatever it ends with
pub record IsPageOf (file bytes page : List ℕ) : Type 0 where
  pub tail : Tail
  pub page_of : IsPage file bytes tail page
