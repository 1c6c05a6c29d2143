-- The grammar of a types file, over the tokens of a protocol file: constants first, and then a line for each label.
use Rattle.std.specs.Prelude.{Option, Some, None, List}
use Rattle.pb_text.specs.declared.token.Token.{Token}
use Rattle.pb_text.specs.declared.token.TokenKind.{TokenKind}
use Rattle.pb_text.specs.declared.token.TokenKind.TheVariants as kind
use Rattle.pb_text.specs.declared.token.Mark.TheVariants.{Equals, Semicolon, LeftBracket, RightBracket}
use Rattle.pb_text.specs.declared.token.Key.{Key}
use Rattle.pb_text.specs.declared.token.Key.TheVariants as keys
use Rattle.pb_syntax.specs.Form.{Form, done, one, many, ◌>>=◌, ◌or◌}
use Rattle.pb_syntax.specs.Grammar.{mapped, mark, key, name, number}
use Rattle.pb_types.specs.declared.element.Element.{Element}
use Rattle.pb_types.specs.declared.element.Element.TheVariants as elements
use Rattle.pb_types.specs.Elements.{element_named}
use Rattle.pb_types.specs.declared.tree.Constant.{Constant}
use Rattle.pb_types.specs.declared.tree.ElementSpot.{ElementSpot}
use Rattle.pb_types.specs.declared.tree.Extent.{Extent}
use Rattle.pb_types.specs.declared.tree.Extent.TheVariants.{One, Number, Constant as Named, Open}
use Rattle.pb_types.specs.declared.tree.TypeRow.{TypeRow}
use Rattle.pb_types.specs.Plain.{PlainTypes}

-- the type that a keyword names
abbrev pub element_of_key : Key → Option Element
element_of_key keys.Int32 = Some elements.Int32
element_of_key keys.Uint32 = Some elements.Uint32
element_of_key other = None

-- the type that a token names: two of them are keywords, and the others words
abbrev pub element_in : TokenKind → Option Element
element_in (kind.Key k) = element_of_key k
element_in (kind.Word w) = element_named w
element_in other = None

abbrev pub reads_element : Token → Option ElementSpot
reads_element t = mapped (λ e. record { element = e; place = t.place }) (element_in t.kind)

abbrev pub element : Form ElementSpot
element = one reads_element

-- const NAME = NUM ;
abbrev pub constant : Form Constant
constant = do
  start ← key keys.Const
  of ← name
  equals ← mark Equals
  n ← number
  semicolon ← mark Semicolon
  done (record { name = of; value = n.value; value_place = n.place })

-- NUM, or NAME, or nothing
abbrev pub size : Form Extent
size =
    (do
      n ← number
      done (Number n.value n.place))
    or (do
      of ← name
      done (Named of))
    or done Open

-- nothing, or [ size ]
abbrev pub extent : Form Extent
extent =
    (do
      left ← mark LeftBracket
      inside ← size
      right ← mark RightBracket
      done inside)
    or done One

-- NAME type extent ;
abbrev pub row : Form TypeRow
row = do
  label ← name
  carries ← element
  many_of ← extent
  semicolon ← mark Semicolon
  done (record { label = label; carries = carries; extent = many_of })

abbrev pub file : Form PlainTypes
file = do
  constants ← many constant
  rows ← many row
  done (record { constants = constants; rows = rows })

-- the tokens are a types file, and this is its tree
abbrev pub IsTypesFile : List Token → PlainTypes → Type 0
IsTypesFile ts f = file.text ts f

-- the tokens are a front of such a file
abbrev pub IsTypesFront : List Token → Type 0
IsTypesFront ts = file.front ts
