-- Lists of areas.
use Rattle.std.proofs.Common.{◌≡◌, ◌<◌, ◌≤◌, ◌+◌, ℕ, ℤ, Bool, false, not, ◌&&◌, ◌||◌, ap, sym, ◌∙◌, List, [], ◌∷◌, ◌++◌, refl, arith, drop, length, get_or, drop_of_length-le}
use Rattle.std.proofs.lemmas.List.{at_drop_more}
use Rattle.std.proofs.lemmas.Bool.Decides.{nat_tests}
use Rattle.pb_part_areas.specs.declared.area.Area.{Area}
use Rattle.pb_part_areas.specs.Areas.{has, have}
use Rattle.pb_part_areas.specs.Joins.{blank}
use Rattle.pb_part_areas.proofs.Bools as bools

pub have_append : (xs ys : List Area) (n : ℤ) (role : ℕ) (x : ℤ) → have (xs ++ ys) n role x ≡ have xs n role x || have ys n role x
have_append [] ys n role x = refl
have_append (a ∷ xs) ys n role x = ap (λ z. has a n role x || z) (have_append xs ys n role x) ∙ bools.or_assoc (has a n role x) _ _

pub have_pushed : (xs ys : List Area) (a : Area) → ys ≡ xs ++ a ∷ [] → (n : ℤ) (role : ℕ) (x : ℤ) → have ys n role x ≡ have xs n role x || has a n role x
have_pushed xs ys a e n role x = ap (λ z. have z n role x) e ∙ have_append xs (a ∷ []) n role x ∙ ap (λ z. have xs n role x || z) (sym (bools.or_false (has a n role x)))

pub have_unpushed : (xs : List Area) (a : Area) → ((n : ℤ) (role : ℕ) (x : ℤ) → has a n role x ≡ false) → (n : ℤ) (role : ℕ) (x : ℤ) → have xs n role x ≡ have xs n role x || has a n role x
have_unpushed xs a e n role x = bools.or_false _ ∙ ap (λ z. have xs n role x || z) (sym (e n role x))

less_bools : (o o2 a d b l : Bool) → o2 ≡ o || (a && not b) → o || ((a || d) && not b) ≡ l → o2 || (d && not b) ≡ l
less_bools o o2 a d b l e h = grind (arith, nat_tests)

pub less_step : (xs : List Area) (i : ℕ) (o o2 b l : Bool) (n : ℤ) (role : ℕ) (x : ℤ) → i < length xs → o2 ≡ o || (has (get_or xs i blank) n role x && not b) →
    o || (have (drop i xs) n role x && not b) ≡ l → o2 || (have (drop (i + 1) xs) n role x && not b) ≡ l
less_step xs i o o2 b l n role x lt e h =
    less_bools o o2 (has (get_or xs i blank) n role x) _ b l e (ap (λ z. o || (z && not b)) (sym (at_drop_more (λ z. have z n role x) xs i blank lt)) ∙ h)

without_bools : (o o2 b d l : Bool) → o2 ≡ o && not b → o && not (b || d) ≡ l → o2 && not d ≡ l
without_bools o o2 b d l e h = grind (arith, nat_tests)

pub without_step : (xs : List Area) (i : ℕ) (o o2 l : Bool) (n : ℤ) (role : ℕ) (x : ℤ) → i < length xs → o2 ≡ o && not (has (get_or xs i blank) n role x) →
    o && not (have (drop i xs) n role x) ≡ l → o2 && not (have (drop (i + 1) xs) n role x) ≡ l
without_step xs i o o2 l n role x lt e h =
    without_bools o o2 (has (get_or xs i blank) n role x) _ l e (ap (λ z. o && not z) (sym (at_drop_more (λ z. have z n role x) xs i blank lt)) ∙ h)

overlap_bools : (o o2 a b d l : Bool) → o2 ≡ o || (a && b) → o || (a && (b || d)) ≡ l → o2 || (a && d) ≡ l
overlap_bools o o2 a b d l e h = grind (arith, nat_tests)

pub overlap_step : (xs : List Area) (i : ℕ) (o o2 a l : Bool) (n : ℤ) (role : ℕ) (x : ℤ) → i < length xs → o2 ≡ o || (a && has (get_or xs i blank) n role x) →
    o || (a && have (drop i xs) n role x) ≡ l → o2 || (a && have (drop (i + 1) xs) n role x) ≡ l
overlap_step xs i o o2 a l n role x lt e h =
    overlap_bools o o2 a (has (get_or xs i blank) n role x) _ l e (ap (λ z. o || (a && z)) (sym (at_drop_more (λ z. have z n role x) xs i blank lt)) ∙ h)

and_or_false : (o a l : Bool) → o || (a && false) ≡ l → o ≡ l
and_or_false o a l h = grind (arith, nat_tests)

pub overlap_end : (xs : List Area) (i : ℕ) (o a l : Bool) (n : ℤ) (role : ℕ) (x : ℤ) → length xs ≤ i → o || (a && have (drop i xs) n role x) ≡ l → o ≡ l
overlap_end xs i o a l n role x le h = and_or_false o a l (sym (ap (λ z. o || (a && have z n role x)) (drop_of_length-le xs le)) ∙ h)

common_bools : (o o2 a d b l : Bool) → o2 ≡ o || (a && b) → o || ((a || d) && b) ≡ l → o2 || (d && b) ≡ l
common_bools o o2 a d b l e h = grind (arith, nat_tests)

pub common_step : (xs : List Area) (i : ℕ) (o o2 b l : Bool) (n : ℤ) (role : ℕ) (x : ℤ) → i < length xs → o2 ≡ o || (has (get_or xs i blank) n role x && b) →
    o || (have (drop i xs) n role x && b) ≡ l → o2 || (have (drop (i + 1) xs) n role x && b) ≡ l
common_step xs i o o2 b l n role x lt e h =
    common_bools o o2 (has (get_or xs i blank) n role x) _ b l e (ap (λ z. o || (z && b)) (sym (at_drop_more (λ z. have z n role x) xs i blank lt)) ∙ h)

-- two areas of different roles have nothing in common
pub apart : (a b : Area) (o : Bool) (n : ℤ) (role : ℕ) (x : ℤ) → (a.role ≡ b.role → ⊥) → o ≡ o || (has a n role x && has b n role x)
apart a b o n role x h = bools.roles_apart role a.role b.role o _ _ _ _ _ _ _ _ h

pub differ : (a b : Area) (o : Bool) (n : ℤ) (role : ℕ) (x : ℤ) → (a.role ≡ b.role → ⊥) → o || has a n role x ≡ o || (has a n role x && not (has b n role x))
differ a b o n role x h = bools.roles_differ role a.role b.role o _ _ _ _ _ _ _ _ h

add_bools : (o o2 a d l : Bool) → o2 ≡ o || a → o || (a || d) ≡ l → o2 || d ≡ l
add_bools o o2 a d l e h = grind (arith, nat_tests)

pub add_step : (xs : List Area) (i : ℕ) (o o2 l : Bool) (n : ℤ) (role : ℕ) (x : ℤ) → i < length xs → o2 ≡ o || has (get_or xs i blank) n role x →
    o || have (drop i xs) n role x ≡ l → o2 || have (drop (i + 1) xs) n role x ≡ l
add_step xs i o o2 l n role x lt e h =
    add_bools o o2 (has (get_or xs i blank) n role x) _ l e (ap (λ z. o || z) (sym (at_drop_more (λ z. have z n role x) xs i blank lt)) ∙ h)

pub add_end : (xs : List Area) (i : ℕ) (o l : Bool) (n : ℤ) (role : ℕ) (x : ℤ) → length xs ≤ i → o || have (drop i xs) n role x ≡ l → o ≡ l
add_end xs i o l n role x le h = bools.or_false o ∙ sym (ap (λ z. o || have z n role x) (drop_of_length-le xs le)) ∙ h

pub absorbed : (o o2 a v : Bool) → v ≡ a && not o → o2 ≡ o || v → o2 ≡ o || a
absorbed o o2 a v e h = grind (arith, nat_tests)
