-- The words after the program's name, told apart: options with their values, and other words.
use Rattle.std.specs.Prelude.{ℕ, ◌&&◌, nat_eq, nat_le, cond, Bool, true, false, List, [], ◌∷◌, length, Option, Some, None, codes}
use Rattle.std.specs.Cmp.Lexicographic.{pointwise}
use Rattle.pb_text_read.specs.Fronts.{strip}

pub data Key : Type 0 where
  N : Key
  Seed : Key
  Turns : Key
  Mode : Key
  Schedule : Key

-- how an option is written
abbrev pub name_of : Key → List ℕ
name_of N = codes "--n"
name_of Seed = codes "--seed"
name_of Turns = codes "--turns"
name_of Mode = codes "--mode"
name_of Schedule = codes "--schedule"

abbrev pub number_of : Key → ℕ
number_of N = 0
number_of Seed = 1
number_of Turns = 2
number_of Mode = 3
number_of Schedule = 4

abbrev pub takes_value : Key → Bool
takes_value N = true
takes_value Seed = true
takes_value Turns = true
takes_value Mode = true
takes_value Schedule = false

-- the word's first byte is `-`
abbrev pub begins_with_dash : List ℕ → Bool
begins_with_dash [] = false
begins_with_dash (byte ∷ bytes) = nat_eq byte 45

-- ---- what a word is, where no option before it wants a value

pub data Shape : Type 0 where
  ordinary : Shape  -- neither an option nor the separator
  separator : Shape
  option : (key : Key) → Shape
  joined : (key : Key) → (value : List ℕ) → Shape  -- an option with its value, as `--n=8`
  strange : Shape

-- what stands behind an option's name: nothing, or `=` and a value
abbrev pub ending_of : Key → List ℕ → Option Shape
ending_of key [] = Some (option key)
ending_of key (byte ∷ value) = cond (nat_eq byte 61) (Some (joined key value)) None

abbrev pub named_by : Key → Option (List ℕ) → Option Shape
named_by key None = None
named_by key (Some rest) = ending_of key rest

-- the word is this option, with or without a value
abbrev pub named : Key → List ℕ → Option Shape
named key word = named_by key (strip (name_of key) word)

abbrev pub or_else : Option Shape → Shape → Shape
or_else (Some shape) other = shape
or_else None other = other

abbrev pub option_shape : List ℕ → Shape
option_shape word =
    or_else (named N word) (or_else (named Seed word) (or_else (named Turns word) (or_else (named Mode word) (or_else (named Schedule word) strange))))

-- a word of two or more bytes that begins with `-` is the separator `--`, or an option, or strange
abbrev pub shape_of : List ℕ → Shape
shape_of word =
    cond (begins_with_dash word && nat_le 2 (length word)) (cond (pointwise nat_eq word (codes "--")) separator (option_shape word)) ordinary

-- ---- the words told apart

-- an option with its value, which is empty where it takes none
pub record Given : Type 0 where
  pub key : Key
  pub value : List ℕ

-- the other words before the separator, those behind it, and the options
pub record Said : Type 0 where
  pub words : List (List ℕ)
  pub behind : List (List ℕ)
  pub options : List Given

abbrev pub nothing_behind : List (List ℕ) → Said
nothing_behind words = record { words = []; behind = words; options = [] }

-- the same, and one word or option more in front
abbrev pub with_word : List ℕ → Option Said → Option Said
with_word word None = None
with_word word (Some s) = Some (record s { words = word ∷ s.words })

abbrev pub with_option : Key → List ℕ → Option Said → Option Said
with_option key value None = None
with_option key value (Some s) = Some (record s { options = record { key = key; value = value } ∷ s.options })

-- an option that stands alone takes no value, or the next word is its value
abbrev pub alone : Key → Option Said → Option Said → Option Said
alone key next rest = cond (takes_value key) next (with_option key [] rest)

abbrev pub with_joined : Key → List ℕ → Option Said → Option Said
with_joined key value rest = cond (takes_value key) (with_option key value rest) None

-- A word of this shape, with what is said by the words behind it: where they begin with the value of the option, and where
-- they don't
abbrev pub of_shape : Shape → List ℕ → List (List ℕ) → (Key → Option Said) → Option Said → Option Said
of_shape ordinary word words next rest = with_word word rest
of_shape separator word words next rest = Some (nothing_behind words)
of_shape (option key) word words next rest = alone key (next key) rest
of_shape (joined key value) word words next rest = with_joined key value rest
of_shape strange word words next rest = None

-- what the words say, behind an option that wants a value or behind none
abbrev pub said_behind : Option Key → List (List ℕ) → Option Said
said_behind None [] = Some (nothing_behind [])
said_behind (Some key) [] = None
said_behind (Some key) (value ∷ words) = cond (begins_with_dash value) None (with_option key value (said_behind None words))
said_behind None (word ∷ words) = of_shape (shape_of word) word words (λ key. said_behind (Some key) words) (said_behind None words)

-- None where they are in no form
abbrev pub said : List (List ℕ) → Option Said
said words = said_behind None words
