-- A continue leads to the innermost loop of its name, by the ids of loops as by their names.
use Rattle.std.proofs.Common.{◌≡◌, ℕ, suc, ◌<◌, ◌≤◌, Bool, true, false, ◌||◌, ◌&&◌, nat_eq, if◌then◌else◌, List, [], ◌∷◌, refl, ap, ◌∙◌, arith, eq-eqb}
use Rattle.std.proofs.lemmas.Bool.Decides.{nat_tests}
use Rattle.pb_text.specs.declared.place.Place.{Place}
use Rattle.pb_core_language.specs.FlatOf as by_id
use Rattle.pb_core_language.specs.Meaning.{Open, id_of}
use Rattle.pb_core_language.specs.Names.{Name, same, is_named}
use Rattle.pb_strips_laws.specs.Flat.{between}

abbrev pub loop_names : List Open → List Name
loop_names [] = []
loop_names (o ∷ os) = o.name ∷ loop_names os

abbrev pub loop_ids : List Open → List ℕ
loop_ids [] = []
loop_ids (o ∷ os) = o.id ∷ loop_ids os

-- ids are below this one, and descend outward
abbrev pub Descend : ℕ → List Open → Type 0
Descend s [] = Unit {0}
Descend s (o ∷ os) = (o.id < s) × Descend o.id os

pub descend_on : (s t : ℕ) (os : List Open) → s ≤ t → Descend s os → Descend t os
descend_on s t [] h d = tt
descend_on s t (o ∷ os) h d = let lt = d.0 in (omega (arith, h, lt), d.1)

outer_id : (n own : ℕ) → n < own → nat_eq n own ≡ false
outer_id n own h = grind (arith, nat_tests)

id_below : (x : Name) (s : ℕ) (os : List Open) → Descend s os → is_named x (loop_names os) ≡ true → id_of x os < s
id_below x s [] d h = cc
id_below x s (o ∷ os) d h = by (same x o.name) h (λ k. id_below x o.id os d.1 k)
  where
    by : (b : Bool) → (b || is_named x (loop_names os)) ≡ true → (is_named x (loop_names os) ≡ true → id_of x os < o.id) → (if b then o.id else id_of x os) < s
    by true k inner = d.0
    by false k inner = let lt = inner k in let under = d.0 in omega (arith, lt, under)

pub loop_found : (x : Name) (s : ℕ) (os : List Open) → Descend s os → is_named x (loop_names os) ≡ true → by_id.between (id_of x os) (loop_ids os) ≡ between x (loop_names os)
loop_found x s [] d h = cc
loop_found x s (o ∷ os) d h = by (same x o.name) h (λ k. loop_found x o.id os d.1 k) (λ k. id_below x o.id os d.1 k)
  where
    by : (b : Bool) → (b || is_named x (loop_names os)) ≡ true → (is_named x (loop_names os) ≡ true → by_id.between (id_of x os) (loop_ids os) ≡ between x (loop_names os)) →
        (is_named x (loop_names os) ≡ true → id_of x os < o.id) → by_id.between (if b then o.id else id_of x os) (o.id ∷ loop_ids os) ≡ (if b then 0 else suc (between x (loop_names os)))
    by true k inner below = ap (λ c. if c then 0 else suc (by_id.between o.id (loop_ids os))) (eq-eqb o.id o.id refl)
    by false k inner below = ap (λ c. if c then 0 else suc (by_id.between (id_of x os) (loop_ids os))) (outer_id (id_of x os) o.id (below k)) ∙ ap suc (inner k)

-- rule 3 at a continue
pub stands_in_loop : (last named : Bool) (at : Place) → let none_there : List Place = [] in (if last && named then none_there else at ∷ []) ≡ [] → named ≡ true
stands_in_loop true true at h = refl
stands_in_loop true false at h = cc
stands_in_loop false named at h = cc
