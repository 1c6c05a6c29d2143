-- A file that breaks none of the rules 1 to 5 keeps each.
use Rattle.std.proofs.Common.{◌≡◌, ℕ, Option, None, List, [], ◌∷◌, refl}
use Rattle.pb_text.specs.declared.place.Place.{Place}
use Rattle.pb_syntax.specs.Tree.{PlainFile}
use Rattle.pb_core_language.specs.FileRules.{first_or, broken_1, broken_2, broken_3, broken_4, broken_5, broken}

pub record Unbroken (f : PlainFile) : Type 0 where
  pub one : broken_1 f ≡ []
  pub two : broken_2 f ≡ []
  pub three : broken_3 f ≡ []
  pub four : broken_4 f ≡ []
  pub five : broken_5 f ≡ []

none_first : (k : ℕ) (ps : List Place) (later : Option (ℕ × Place)) → first_or k ps later ≡ None → (ps ≡ []) × (later ≡ None)
none_first k [] later h = (refl, h)
none_first k (p ∷ ps) later h = cc

pub unbroken : (f : PlainFile) → broken f ≡ None → Unbroken f
unbroken f h =
    let one = none_first 1 (broken_1 f) _ h in
    let two = none_first 2 (broken_2 f) _ one.1 in
    let three = none_first 3 (broken_3 f) _ two.1 in
    let four = none_first 4 (broken_4 f) _ three.1 in
    let five = none_first 5 (broken_5 f) _ four.1 in
    record { one = one.0; two = two.0; three = three.0; four = four.0; five = five.0 }
