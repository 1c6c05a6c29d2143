-- Names that stand once.
use Rattle.std.proofs.Common.{◌≡◌, ◌≢◌, ℕ, ◌<◌, ◌≤◌, true, not, List, [], ◌∷◌, ◌++◌, length, get_or, refl, sym, ap, subst, ◌∙◌, inl, inr, arith, Decides, nat_eq, append_assoc, append-nil}
use Rattle.std.specs.Cmp.Lexicographic.{pointwise}
use Rattle.std.proofs.lemmas.Bool.{both_ways, not-true, not_from_false, false_from_ne_true, cases_eq}
use Rattle.std.proofs.lemmas.List.{get_or_at, get_or_append_left, get_or_default, length-append, length_push}
use Rattle.std.proofs.lemmas.List.Folds.{Any-from_list_any, list_any_at}
use Rattle.std.proofs.lemmas.Slice.Eq.{bytes_eq-Decides}
use Rattle.pb_ctree.specs.Rules.{is_among}

-- the name is none of these
abbrev pub IsNew : List (List ℕ) → List ℕ → Type 0
IsNew before name = (i : ℕ) → i < length before → get_or before i [] ≢ name

pub new_is : (before : List (List ℕ)) (name : List ℕ) → Decides (not (is_among name before)) (IsNew before name)
new_is before name = (apart, λ h. not_from_false _ (false_from_ne_true _ (found h))) where
  apart : not (is_among name before) ≡ true → IsNew before name
  apart e i less same = both_ways _ (not-true _ e) (list_any_at (pointwise nat_eq name) before i [] less ((bytes_eq-Decides name (get_or before i [])).1 (sym same)))

  found : IsNew before name → is_among name before ≡ true → ⊥
  found h e =
      let a = Any-from_list_any (pointwise nat_eq name) before e in
      h a.0 a.2 (get_or_default before a.0 [] a.1 a.2 ∙ a.3 ∙ sym ((bytes_eq-Decides name a.1).0 a.4))

-- each name from the k-th on differs from all before it
abbrev pub AreDistinctFrom : ℕ → List (List ℕ) → Type 0
AreDistinctFrom k names = (i j : ℕ) → i < j → k ≤ j → j < length names → get_or names i [] ≢ get_or names j []

pub none_behind : (before : List (List ℕ)) → AreDistinctFrom (length before) (before ++ [])
none_behind before i j above least less = absurd (omega (arith, ap length (append-nil before)))

-- one more name, and those behind it
pub distinct_more : (before : List (List ℕ)) (name : List ℕ) (names : List (List ℕ)) → IsNew before name →
    AreDistinctFrom (length (before ++ name ∷ [])) ((before ++ name ∷ []) ++ names) → AreDistinctFrom (length before) (before ++ (name ∷ names))
distinct_more before name names new rest i j above least less same =
    let later : AreDistinctFrom (length (before ++ name ∷ [])) (before ++ (name ∷ names)) = subst (λ (xs : List (List ℕ)). AreDistinctFrom (length (before ++ name ∷ [])) xs) (append_assoc before (name ∷ []) names) rest in
    elim (cases_eq j (length before)) [
      | inl e ↦ new i (omega (arith, e)) (sym (get_or_append_left before (name ∷ names) [] i (omega (arith, e))) ∙ same ∙ get_or_at before name names [] j (sym e))
      | inr other ↦ later i j above (omega (arith, other, length_push before name)) less same
    ]

pub first_new : (before : List (List ℕ)) (name : List ℕ) (names : List (List ℕ)) → AreDistinctFrom (length before) (before ++ (name ∷ names)) → IsNew before name
first_new before name names h i less same =
    h i (length before) less (omega arith) (omega (arith, length-append before (name ∷ names)))
    (get_or_append_left before (name ∷ names) [] i less ∙ same ∙ sym (get_or_at before name names [] (length before) refl))

pub others_distinct : (before : List (List ℕ)) (name : List ℕ) (names : List (List ℕ)) → AreDistinctFrom (length before) (before ++ (name ∷ names)) →
    AreDistinctFrom (length (before ++ name ∷ [])) ((before ++ name ∷ []) ++ names)
others_distinct before name names h =
    subst (λ (xs : List (List ℕ)). AreDistinctFrom (length (before ++ name ∷ [])) xs) (sym (append_assoc before (name ∷ []) names))
    (λ i j above least less. h i j above (omega (arith, least, length_push before name)) less)
