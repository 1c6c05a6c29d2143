-- Each form of the grammar has a text, and its fronts are what its texts begin with.
use Rattle.std.proofs.Common.{◌≡◌, [], ◌∷◌, Some, refl}
use Rattle.pb_text.specs.declared.place.Place.{Place}
use Rattle.pb_text.specs.declared.token.TokenKind.TheVariants as kind
use Rattle.pb_text.specs.declared.token.Mark.{Mark}
use Rattle.pb_text.specs.declared.token.Mark.TheVariants as marks
use Rattle.pb_text.specs.declared.token.Key.{Key}
use Rattle.pb_text.specs.declared.token.Key.TheVariants as keys
use Rattle.pb_syntax.specs.Grammar.{reads_mark, reads_key, reads_name, reads_number, mark, key, name, number}
use Rattle.pb_syntax.proofs.Lawful.{Lawful, done_ok, one_ok, many_ok, ◌>>=◌, ◌or_ok◌}
use Rattle.pb_types.specs.Grammar.{reads_element, element, constant, size, extent, row, file}

here : Place
here = record { line = 1; col = 1 }

name_ok : Lawful name
name_ok = one_ok reads_name (record { kind = kind.Word (120 ∷ []); place = here }) _ refl

number_ok : Lawful number
number_ok = one_ok reads_number (record { kind = kind.Number 1; place = here }) _ refl

mark_ok : (m : Mark) → reads_mark m (record { kind = kind.Mark m; place = here }) ≡ Some here → Lawful (mark m)
mark_ok m e = one_ok (reads_mark m) (record { kind = kind.Mark m; place = here }) here e

key_ok : (k : Key) → reads_key k (record { kind = kind.Key k; place = here }) ≡ Some here → Lawful (key k)
key_ok k e = one_ok (reads_key k) (record { kind = kind.Key k; place = here }) here e

element_ok : Lawful element
element_ok = one_ok reads_element (record { kind = kind.Key keys.Int32; place = here }) _ refl

pub constant_ok : Lawful constant
constant_ok = do
  start ← key_ok keys.Const refl
  of ← name_ok
  equals ← mark_ok marks.Equals refl
  n ← number_ok
  semicolon ← mark_ok marks.Semicolon refl
  done_ok _

size_ok : Lawful size
size_ok =
    (do
      n ← number_ok
      done_ok _)
    or_ok (do
      of ← name_ok
      done_ok _)
    or_ok done_ok _

extent_ok : Lawful extent
extent_ok =
    (do
      left ← mark_ok marks.LeftBracket refl
      inside ← size_ok
      right ← mark_ok marks.RightBracket refl
      done_ok _)
    or_ok done_ok _

pub row_ok : Lawful row
row_ok = do
  label ← name_ok
  carries ← element_ok
  many_of ← extent_ok
  semicolon ← mark_ok marks.Semicolon refl
  done_ok _

pub file_ok : Lawful file
file_ok = do
  constants ← many_ok constant_ok
  rows ← many_ok row_ok
  done_ok _
