-- Lists of lists, kept in vectors.
use Rattle.std.proofs.Common.{◌≡◌, ◌<◌, ◌≤◌, ℕ, zero, suc, ◌+◌, List, [], ◌∷◌, ◌++◌, map, length, get_or, ap, ◌∙◌, sym, refl, arith}
use Rattle.std.proofs.Math.ListN.{set}
use Rattle.std.proofs.lemmas.List.{map-set, get_or-map}
use Rattle.std.proofs.Math.Seq.{map-set_same}
use Rattle.pb_sim_collectives.specs.declared.rounds.Round.{Round}
use Rattle.pb_sim_collectives.specs.declared.call.Call.{Call}
use Rattle.pb_sim_collectives.specs.Lists.{replicated}
use Rattle.pb_sim_collectives.specs.Rounds.{one_more, with_one}

replicated_more : (n : ℕ) → replicated (suc n) ≡ replicated n ++ [] ∷ []
replicated_more zero = refl
replicated_more (suc n) = ap (λ xs. [] ∷ xs) (replicated_more n)

pub one_more_list : (xs : List (List (List ℕ))) (n : ℕ) → xs ≡ replicated n → xs ++ [] ∷ [] ≡ replicated (n + 1)
one_more_list xs n e = let q : suc n ≡ n + 1 = omega arith in ap (λ ys. ys ++ [] ∷ []) e ∙ sym (replicated_more n) ∙ ap replicated q

-- one list grew
pub pushed_in : {V : Type 0} (items : V → List (List ℕ)) (xs : List V) (r : ℕ) (v d : V) (w : List ℕ) → r < length xs → d ≡ get_or xs r d → items v ≡ items d ++ w ∷ [] → map items (set xs r v) ≡ set (map items xs) r (get_or (map items xs) r [] ++ w ∷ [])
pushed_in items xs r v d w h at e =
    map-set items xs r v ∙ ap (λ z. set (map items xs) r z) (e ∙ ap (λ z. z ++ w ∷ []) (ap items at ∙ sym (get_or-map items xs r d [] h)))

pub kept_in : {V A : Type 0} (items : V → A) (xs : List V) (r : ℕ) (v d : V) → d ≡ get_or xs r d → items v ≡ items d → map items (set xs r v) ≡ map items xs
kept_in items xs r v d at e = map-set_same items xs r v d (e ∙ ap items at)

pub with_one_in : (xs : List Round) (k : ℕ) (d : Round) (call : Call) → k < length xs → d ≡ get_or xs k d → set xs k (one_more d) ≡ with_one xs k call
with_one_in [] k d call h at = absurd (omega (arith, h))
with_one_in (x ∷ xs) zero d call h at = ap (λ y. one_more y ∷ xs) at
with_one_in (x ∷ xs) (suc k) d call h at = ap (λ ys. x ∷ ys) (with_one_in xs k d call (omega (arith, h)) at)

pub with_one_behind : (xs : List Round) (k : ℕ) (call : Call) → length xs ≤ k → xs ++ record { call = call; came = 1 } ∷ [] ≡ with_one xs k call
with_one_behind [] k call h = refl
with_one_behind (x ∷ xs) zero call h = absurd (omega (arith, h))
with_one_behind (x ∷ xs) (suc k) call h = ap (λ ys. x ∷ ys) (with_one_behind xs k call (omega (arith, h)))
