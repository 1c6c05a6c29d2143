-- Areas without those of others, half by half.
use Rattle.std.proofs.Common.{◌≡◌, ◌<◌, ◌≤◌, ◌+◌, ℕ, ℤ, Bool, true, false, not, ◌&&◌, ◌||◌, List, ◌++◌, drop, get_or, length, refl, sym, ap, ◌∙◌, drop_of_length-le, arith}
use Rattle.std.proofs.lemmas.Bool.{or_left, or_right}
use Rattle.std.proofs.lemmas.Bool.Decides.{nat_tests}
use Rattle.std.proofs.lemmas.List.{at_drop_more}
use Rattle.std.proofs.Math.Bool.{or-false}
use Rattle.pb_part_areas.specs.declared.area.Area.{Area}
use Rattle.pb_part_areas.specs.Areas.{has, have}
use Rattle.pb_part_areas.proofs.Lists.{have_append}

-- ---- an area around

around_bools : (l h r a w b : Bool) → l ≡ true → (l ≡ true → w || b ≡ true) → b ≡ h || r → (w || h ≡ true → a ≡ true) → a || r ≡ true
around_bools l true r a w b t h e k = or_left a r (k (or_right w true refl))
around_bools l false r a true b t h e k = or_left a r (k refl)
around_bools l false r a false b t h e k = or_right a r (sym e ∙ h t)

-- what the areas hold of, this one or those behind hold of
pub around_step : (xs : List Area) (i : ℕ) (d : Area) (w a : Bool) (n : ℤ) (role : ℕ) (x : ℤ) → i < length xs → (w || has (get_or xs i d) n role x ≡ true → a ≡ true) →
    (have xs n role x ≡ true → w || have (drop i xs) n role x ≡ true) → have xs n role x ≡ true → a || have (drop (i + 1) xs) n role x ≡ true
around_step xs i d w a n role x lt spans h t =
    around_bools (have xs n role x) (has (get_or xs i d) n role x) (have (drop (i + 1) xs) n role x) a w (have (drop i xs) n role x) t h (at_drop_more (λ l. have l n role x) xs i d lt) spans

pub around_end : (xs : List Area) (i : ℕ) (a : Bool) (n : ℤ) (role : ℕ) (x : ℤ) → length xs ≤ i → (have xs n role x ≡ true → a || have (drop i xs) n role x ≡ true) → have xs n role x ≡ true → a ≡ true
around_end xs i a n role x le h t = sym (or-false a) ∙ ap (λ l. a || have l n role x) (sym (drop_of_length-le xs le)) ∙ h t

-- ---- halves

halves_bools : (w0 w1 w2 b q all o : Bool) → w1 ≡ w0 || (b && not o) → w2 ≡ w1 || (q && not o) → all ≡ b || q → w2 ≡ w0 || (all && not o)
halves_bools w0 w1 w2 b q all o e f g = grind (arith, nat_tests)

abbrev AddsLess : List Area → List Area → List Area → List Area → Type 0
AddsLess list others old new = (n : ℤ) (role : ℕ) (x : ℤ) → have new n role x ≡ have old n role x || (have list n role x && not (have others n role x))

pub both_less : (list others first second old mid new : List Area) → list ≡ first ++ second → AddsLess first others old mid → AddsLess second others mid new → AddsLess list others old new
both_less list others first second old mid new whole adds adds2 n role x =
    halves_bools (have old n role x) (have mid n role x) (have new n role x) (have first n role x) (have second n role x) (have list n role x) (have others n role x)
    (adds n role x) (adds2 n role x) (ap (λ l. have l n role x) whole ∙ have_append first second n role x)
