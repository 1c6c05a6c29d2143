-- The first place of lists one behind the other, and whether statements are left.
use Rattle.std.proofs.Common.{◌≡◌, ℕ, ◌<◌, ◌+◌, nat_eq, Option, Some, None, List, [], ◌∷◌, ◌++◌, length, map, drop, length-drop, refl, sym, ap, ◌∙◌, arith}
use Rattle.std.proofs.lemmas.Bool.Decides.{nat_tests}
use Rattle.pb_text.specs.declared.place.Place.{Place}
use Rattle.pb_syntax.specs.Tree.{statements_of}
use Rattle.pb_syntax.specs.declared.tree.Statement.{Statement}
use Rattle.pb_syntax.specs.Plain.{plain_statement}
use Rattle.pb_core_language.specs.FileRules.{is_nothing}
use Rattle.pb_core_file_rules.specs.Lowering.{first, or_first}

pub first_both : (a b : List Place) → first (a ++ b) ≡ or_first (first a) (first b)
first_both [] b = refl
first_both (p ∷ ps) b = refl

pub first_here : (a b : List Place) (p : Place) → Some p ≡ first a → first (a ++ b) ≡ Some p
first_here [] b p e = absurd (grind arith)
first_here (q ∷ qs) b p e = sym e

pub first_later : (a b : List Place) → None ≡ first a → first (a ++ b) ≡ first b
first_later [] b e = refl
first_later (q ∷ qs) b e = absurd (grind arith)

pub or_first_both : (a b c : Option Place) → or_first (or_first a b) c ≡ or_first a (or_first b c)
or_first_both None b c = refl
or_first_both (Some p) b c = refl

pub or_first_none : (a : Option Place) → or_first a None ≡ a
or_first_none None = refl
or_first_none (Some p) = refl

left_none : (xs : List Statement) → is_nothing (statements_of (map plain_statement xs)) ≡ nat_eq (length xs) 0
left_none [] = refl
left_none (x ∷ xs) = grind (arith, nat_tests)

pub none_left : (xs : List Statement) (i : ℕ) → i < length xs → is_nothing (statements_of (map plain_statement (drop (i + 1) xs))) ≡ nat_eq (length xs) (i + 1)
none_left xs i h = left_none (drop (i + 1) xs) ∙ ap (λ n. nat_eq n 0) (length-drop (i + 1) xs) ∙ grind (arith, nat_tests)
