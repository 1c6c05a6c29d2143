-- Reading each form from left to right.
use Rattle.std.specs.Prelude.{List, [], ◌∷◌, Result, Ok, Err}
use Rattle.pb_text.specs.declared.token.Token.{Token}
use Rattle.pb_text.specs.declared.token.Mark.TheVariants.{Equals, Semicolon, LeftBracket, RightBracket}
use Rattle.pb_text.specs.declared.token.Key.TheVariants as keys
use Rattle.pb_syntax.specs.Reading.{Reader, next, done_at, one_at, ◌>>=◌, choose, many_at}
use Rattle.pb_syntax.specs.Readers.{mark_at, key_at, name_at, number_at, mark_next, key_next, word_next, number_next}
use Rattle.pb_types.specs.declared.tree.Constant.{Constant}
use Rattle.pb_types.specs.declared.tree.ElementSpot.{ElementSpot}
use Rattle.pb_types.specs.declared.tree.Extent.{Extent}
use Rattle.pb_types.specs.declared.tree.Extent.TheVariants.{One, Number, Constant as Named, Open}
use Rattle.pb_types.specs.declared.tree.TypeRow.{TypeRow}
use Rattle.pb_types.specs.Plain.{PlainTypes}
use Rattle.pb_types.specs.Grammar.{reads_element}

abbrev pub element_at : Reader ElementSpot
element_at = one_at reads_element

-- const NAME = NUM ;
unfoldable pub constant_at : Reader Constant
constant_at = do
  start ← key_at keys.Const
  of ← name_at
  equals ← mark_at Equals
  n ← number_at
  semicolon ← mark_at Semicolon
  done_at (record { name = of; value = n.value; value_place = n.place })

-- NUM, or NAME, or nothing
unfoldable pub size_at : Reader Extent
size_at =
    choose number_next (do
      n ← number_at
      done_at (Number n.value n.place)) (
    choose word_next (do
      of ← name_at
      done_at (Named of)) (
    (done_at Open)))

-- nothing, or [ size ]
unfoldable pub extent_at : Reader Extent
extent_at =
    choose (mark_next LeftBracket) (do
      left ← mark_at LeftBracket
      inside ← size_at
      right ← mark_at RightBracket
      done_at inside) (
    (done_at One))

-- NAME type extent ;
unfoldable pub row_at : Reader TypeRow
row_at = do
  label ← name_at
  carries ← element_at
  many_of ← extent_at
  semicolon ← mark_at Semicolon
  done_at (record { label = label; carries = carries; extent = many_of })

unfoldable pub file_at : Reader PlainTypes
file_at = do
  constants ← many_at (key_next keys.Const) constant_at
  rows ← many_at word_next row_at
  done_at (record { constants = constants; rows = rows })

-- Reading all the tokens.
abbrev pub ended : PlainTypes → Reader PlainTypes
ended f [] = Ok (f, [])
ended f (t ∷ ts) = Err (t ∷ ts)

abbrev pub whole_at : List Token → Result (PlainTypes × List Token) (List Token)
whole_at ts = next (file_at ts) ended
