-- The loops around a statement, one by one.
use Rattle.std.proofs.Common.{◌≡◌, ◌<◌, ◌≤◌, ◌+◌, ℕ, zero, suc, ℤ, nat_eq, Bool, true, false, ◌||◌, if◌then◌else◌, List, [], ◌∷◌, ◌++◌, length, get_or, drop, drop_of_length-le, refl, sym, ap, subst, ◌∙◌, append_assoc, arith}
use Rattle.std.specs.List.{All}
use Rattle.std.proofs.lemmas.List.{at_drop_more}
use Rattle.std.proofs.lemmas.Bool.Decides.{nat_tests}
use Rattle.std.proofs.Math.Bool.{or-false}
use Rattle.pb_affine.specs.declared.lin.Lin.{Lin}
use Rattle.pb_affine.specs.declared.range.NRange.{NRange}
use Rattle.pb_part_areas.specs.Areas.{have}
use Rattle.pb_part_areas.specs.Fits.{Fits}
use Rattle.pb_core_language.specs.Lists.{nth}
use Rattle.pb_core_language.specs.FlatOf.{between}
use Rattle.pb_part_takers.specs.declared.held.Held.{Held}
use Rattle.pb_part_takers.specs.Loops.{ids_of, held_of, HeldFit}

ids_append : (xs ys : List Held) → ids_of (xs ++ ys) ≡ ids_of xs ++ ids_of ys
ids_append [] ys = refl
ids_append (h ∷ xs) ys = ap (λ z. h.id ∷ z) (ids_append xs ys)

held_append : (xs ys : List Held) (n : ℤ) (role : ℕ) (x : ℤ) → held_of (xs ++ ys) n role x ≡ held_of xs n role x ++ held_of ys n role x
held_append [] ys n role x = refl
held_append (h ∷ xs) ys n role x = ap (λ z. have h.areas.value.items n role x ∷ z) (held_append xs ys n role x)

fit_append : (range : NRange) (cuts : List Lin) (xs ys : List Held) → HeldFit range cuts xs → HeldFit range cuts ys → HeldFit range cuts (xs ++ ys)
fit_append range cuts [] ys f g = g
fit_append range cuts (h ∷ xs) ys f g = (f.0, fit_append range cuts xs ys f.1 g)

pub fit_drop : (range : NRange) (cuts : List Lin) (xs : List Held) (i : ℕ) → HeldFit range cuts xs → HeldFit range cuts (drop i xs)
fit_drop range cuts xs zero f = f
fit_drop range cuts [] (suc i) f = tt
fit_drop range cuts (h ∷ xs) (suc i) f = fit_drop range cuts xs i f.1

-- the list from a place on begins with what stands there
pub from_place : {X : Type 0} (xs : List X) (i : ℕ) (h : X) → i < length xs → h ≡ get_or xs i h → drop i xs ≡ h ∷ drop (i + 1) xs
from_place xs i h lt is = at_drop_more (λ z. z) xs i h lt ∙ ap (λ k. k ∷ drop (i + 1) xs) (sym is)

pub fit_at : (range : NRange) (cuts : List Lin) (xs : List Held) (i : ℕ) (h : Held) → i < length xs → h ≡ get_or xs i h → HeldFit range cuts xs → All (Fits range cuts) h.areas.value.items
fit_at range cuts xs i h lt is f = (subst (HeldFit range cuts) (from_place xs i h lt is) (fit_drop range cuts xs i f)).0

-- ---- one more copied

pub ids_step : (xs : List Held) (i : ℕ) (old new : List Held) (h k : Held) (r : List ℕ) → i < length xs → h ≡ get_or xs i h → k.id ≡ h.id → new ≡ old ++ k ∷ [] →
    ids_of old ++ ids_of (drop i xs) ≡ r → ids_of new ++ ids_of (drop (i + 1) xs) ≡ r
ids_step xs i old new h k r lt is same e inv =
    ap (λ z. ids_of z ++ ids_of (drop (i + 1) xs)) e
    ∙ ap (λ z. z ++ ids_of (drop (i + 1) xs)) (ids_append old (k ∷ []))
    ∙ append_assoc (ids_of old) (k.id ∷ []) (ids_of (drop (i + 1) xs))
    ∙ ap (λ z. ids_of old ++ (z ∷ ids_of (drop (i + 1) xs))) same
    ∙ ap (λ z. ids_of old ++ ids_of z) (sym (from_place xs i h lt is))
    ∙ inv

pub held_step : (xs : List Held) (i : ℕ) (old new : List Held) (h k : Held) (n : ℤ) (role : ℕ) (x : ℤ) (r : List Bool) → i < length xs → h ≡ get_or xs i h →
    k.areas.value ≡ h.areas.value → new ≡ old ++ k ∷ [] →
    held_of old n role x ++ held_of (drop i xs) n role x ≡ r → held_of new n role x ++ held_of (drop (i + 1) xs) n role x ≡ r
held_step xs i old new h k n role x r lt is same e inv =
    let left : List Bool = held_of (drop (i + 1) xs) n role x in
    ap (λ z. held_of z n role x ++ left) e
    ∙ ap (λ z. z ++ left) (held_append old (k ∷ []) n role x)
    ∙ append_assoc (held_of old n role x) (have k.areas.value.items n role x ∷ []) left
    ∙ ap (λ v. held_of old n role x ++ (have v.items n role x ∷ left)) same
    ∙ ap (λ z. held_of old n role x ++ held_of z n role x) (sym (from_place xs i h lt is))
    ∙ inv

pub fit_step : (range : NRange) (cuts : List Lin) (old new : List Held) (h k : Held) → k.areas.value ≡ h.areas.value → new ≡ old ++ k ∷ [] → HeldFit range cuts old → All (Fits range cuts) h.areas.value.items → HeldFit range cuts new
fit_step range cuts old new h k same e f g =
    subst (HeldFit range cuts) (sym e) (fit_append range cuts old (k ∷ []) f (subst (λ v. All (Fits range cuts) v.items) (sym same) g, tt))

append_none : {A : Type 0} (xs : List A) → xs ≡ xs ++ []
append_none [] = refl
append_none (x ∷ xs) = ap (λ z. x ∷ z) (append_none xs)

pub ids_end : (xs : List Held) (i : ℕ) (new : List Held) (r : List ℕ) → length xs ≤ i → ids_of new ++ ids_of (drop i xs) ≡ r → ids_of new ≡ r
ids_end xs i new r le inv = append_none (ids_of new) ∙ sym (ap (λ z. ids_of new ++ ids_of z) (drop_of_length-le xs le)) ∙ inv

pub held_end : (xs : List Held) (i : ℕ) (new : List Held) (n : ℤ) (role : ℕ) (x : ℤ) (r : List Bool) → length xs ≤ i → held_of new n role x ++ held_of (drop i xs) n role x ≡ r → held_of new n role x ≡ r
held_end xs i new n role x r le inv = append_none (held_of new n role x) ∙ sym (ap (λ z. held_of new n role x ++ held_of z n role x) (drop_of_length-le xs le)) ∙ inv

-- ---- the innermost loop with an id

abbrev pub holds_id : ℕ → List Held → ℤ → ℕ → ℤ → Bool
holds_id id hs n role x = nth (held_of hs n role x) (between id (ids_of hs))

id_test : (a b : ℕ) → a ≡ b → nat_eq a b ≡ true
id_test a b e = grind (arith, nat_tests)

no_id_test : (a b : ℕ) → (a ≡ b → ⊥) → nat_eq a b ≡ false
no_id_test a b e = grind (arith, nat_tests)

pub id_here : (xs : List Held) (i id : ℕ) (h : Held) (n : ℤ) (role : ℕ) (x : ℤ) → i < length xs → h ≡ get_or xs i h → id ≡ h.id → holds_id id (drop i xs) n role x ≡ have h.areas.value.items n role x
id_here xs i id h n role x lt is e =
    ap (λ z. holds_id id z n role x) (from_place xs i h lt is)
    ∙ ap (λ b. nth (have h.areas.value.items n role x ∷ held_of (drop (i + 1) xs) n role x) (if b then 0 else suc (between id (ids_of (drop (i + 1) xs))))) (id_test id h.id e)

pub id_later : (xs : List Held) (i id : ℕ) (h : Held) (n : ℤ) (role : ℕ) (x : ℤ) → i < length xs → h ≡ get_or xs i h → (id ≡ h.id → ⊥) → holds_id id (drop i xs) n role x ≡ holds_id id (drop (i + 1) xs) n role x
id_later xs i id h n role x lt is e =
    ap (λ z. holds_id id z n role x) (from_place xs i h lt is)
    ∙ ap (λ b. nth (have h.areas.value.items n role x ∷ held_of (drop (i + 1) xs) n role x) (if b then 0 else suc (between id (ids_of (drop (i + 1) xs))))) (no_id_test id h.id e)

pub id_nowhere : (xs : List Held) (i id : ℕ) (n : ℤ) (role : ℕ) (x : ℤ) → length xs ≤ i → holds_id id (drop i xs) n role x ≡ false
id_nowhere xs i id n role x le = ap (λ z. holds_id id z n role x) (drop_of_length-le xs le)

pub or_none : (o b : Bool) → b ≡ false → o ≡ o || b
or_none o b e = sym (or-false o) ∙ ap (λ z. o || z) (sym e)
