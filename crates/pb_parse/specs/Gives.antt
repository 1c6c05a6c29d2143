-- What a method of the cursor returned, and where the cursor stands then.
use Rattle.std.specs.Prelude.{◌≡◌, List, [], ◌∷◌, Result, Ok, Err}
use Rattle.pb_text.specs.declared.place.Place.{Place}
use Rattle.pb_text.specs.declared.token.Token.{Token}
use Rattle.pb_syntax.specs.Tree as tree
use Rattle.pb_parse.specs.declared.cursor.Numeral.{Numeral}
use Rattle.pb_parse.specs.declared.parts.Top.{Top}
use Rattle.pb_parse.specs.declared.cursor.Stop.{Stop}
use Rattle.pb_parse.specs.declared.cursor.Stop.TheVariants.{Unexpected, NoMemory}

-- The method returned what reading gives, and the cursor stands before the rest; where a token doesn't go on, it stands
-- before that token.
abbrev pub StopsAt : {Y : Type 0} → Stop → List Token → Result (Y × List Token) (List Token) → Type 0
StopsAt NoMemory rest read = Unit {0}
StopsAt Unexpected rest read = read ≡ Err rest

abbrev pub GivesTo : {X Y : Type 0} → (X → Y) → Result X Stop → List Token → Result (Y × List Token) (List Token) → Type 0
GivesTo view (Ok x) rest read = read ≡ Ok (view x, rest)
GivesTo view (Err e) rest read = StopsAt e rest read

abbrev pub numeral : Numeral → tree.Numeral
numeral n = record { value = n.value; place = n.place }

abbrev pub top_of : Top → tree.Top
top_of t = record { high = t.high; place = t.place }

-- the place of the next token, or the end
abbrev pub place_at : Place → List Token → Place
place_at end [] = end
place_at end (t ∷ ts) = t.place
