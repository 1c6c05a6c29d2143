-- What is forgotten, and what isn't.
use Rattle.std.proofs.Common.{◌≡◌, ◌<◌, ◌≤◌, ℕ, zero, suc, ◌+◌, ◌-◌, true, nat_lt, List, [], ◌∷◌, ◌++◌, map, length, get_or, take, ap, ◌∙◌, sym, refl, subst, arith, All, length-append, length-set, ◌⊎◌, inl, inr}
use Rattle.std.specs.List.{slice_set}
use Rattle.std.proofs.Math.ListN.{set}
use Rattle.std.proofs.lemmas.Bool.Decides.{nat_tests}
use Rattle.std.proofs.lemmas.List.{length-map, map-set, get_or-map, take_more_set, get_or_past}
use Rattle.std.proofs.lemmas.List.Elements.{All-push, All-same}
use Rattle.pb_sim_collectives.specs.declared.lists.Lists.{Lists}
use Rattle.pb_sim_collectives.specs.Lists.{items_of, starts_of, IsKept, AreKept}
use Rattle.pb_sim_collectives.proofs.Gathering.{longer, it}

-- ---- numbers

pub kept_more : (ns : List ℕ) (n : ℕ) → n ≡ 0 → ((r : ℕ) → get_or ns r 0 ≤ 0) → (r : ℕ) → get_or (ns ++ n ∷ []) r 0 ≤ 0
kept_more [] n e h zero = omega (arith, e)
kept_more [] n e h (suc r) = omega arith
kept_more (m ∷ ns) n e h zero = h zero
kept_more (m ∷ ns) n e h (suc r) = kept_more ns n e (λ q. h (suc q)) r

pub still_kept : (ns : List ℕ) (i k : ℕ) → ((r : ℕ) → get_or ns r 0 ≤ k) → (r : ℕ) → get_or (set ns i k) r 0 ≤ k
still_kept [] i k h r = h r
still_kept (n ∷ ns) zero k h zero = omega arith
still_kept (n ∷ ns) zero k h (suc r) = h (suc r)
still_kept (n ∷ ns) (suc i) k h zero = h zero
still_kept (n ∷ ns) (suc i) k h (suc r) = still_kept ns i k (λ q. h (suc q)) r

pub one_more_forgotten : (ns : List ℕ) (i k : ℕ) → i < length ns → All (λ n. n ≡ k) (take i ns) → All (λ n. n ≡ k) (take (i + 1) (set ns i k))
one_more_forgotten ns i k h all = All-same (λ n. n ≡ k) (take (i + 1) (set ns i k)) (take i ns ++ k ∷ []) (take_more_set ns i k h) (All-push (λ n. n ≡ k) (take i ns) k all refl)

pub no_more : (ns : List ℕ) (k : ℕ) → All (λ n. n ≡ k) ns → (r : ℕ) → get_or ns r 0 ≤ k
no_more ns k all r = by_place (within r (length ns)) where
  within : (i n : ℕ) → (i < n) ⊎ (n ≤ i)
  within i zero = inr (omega arith)
  within zero (suc n) = inl (omega arith)
  within (suc i) (suc n) = elim (within i n) [ inl h ↦ inl (omega (arith, h)) | inr h ↦ inr (omega (arith, h)) ]

  by_place : (r < length ns) ⊎ (length ns ≤ r) → get_or ns r 0 ≤ k
  by_place (inl h) = let e : get_or ns r 0 ≡ k = all r 0 h in omega (arith, e)
  by_place (inr h) = let e : get_or ns r 0 ≡ 0 = get_or_past ns r 0 h in omega (arith, e)

-- ---- windows

pub number_at : {V : Type 0} (from : V → ℕ) (xs : List V) (r : ℕ) (v : V) → r < length xs → v ≡ get_or xs r v → get_or (map from xs) r 0 ≡ from v
number_at from xs r v h e = get_or-map from xs r v 0 h ∙ ap from (sym e)

pub words_at_rank : {V : Type 0} (all : V → List (List ℕ)) (xs : List V) (r : ℕ) (v : V) → r < length xs → v ≡ get_or xs r v → get_or (map all xs) r [] ≡ all v
words_at_rank all xs r v h e = get_or-map all xs r v [] h ∙ ap all (sym e)

pub begins_at : {V : Type 0} (from : V → ℕ) (xs : List V) (r k : ℕ) (v : V) → from v ≡ k → map from (set xs r v) ≡ set (map from xs) r k
begins_at from xs r k v e = map-set from xs r v ∙ ap (λ n. set (map from xs) r n) e

pub kept_at : {V : Type 0} (from : V → ℕ) (xs : List V) (r k : ℕ) (v : V) → r < length xs → v ≡ get_or xs r v → ((q : ℕ) → get_or (map from xs) q 0 ≤ k) → from v ≤ k
kept_at from xs r k v h at kept =
    let e : get_or (map from xs) r 0 ≡ from v = number_at from xs r v h at in
    let n : get_or (map from xs) r 0 ≤ k = kept r in
    omega (arith, e, n)

pub kept_within : {V : Type 0} (from : V → ℕ) (xs items : List V) (r k : ℕ) (v : V) → xs ≡ items → true ≡ nat_lt r (length xs) → v ≡ get_or xs r v → ((q : ℕ) → get_or (map from items) q 0 ≤ k) → from v ≤ k
kept_within {V} from xs items r k v same less at kept = kept_at from xs r k v (less_of (sym less)) at (subst (λ (ys : List V). (q : ℕ) → get_or (map from ys) q 0 ≤ k) (sym same) kept) where
  less_of : nat_lt r (length xs) ≡ true → r < length xs
  less_of e = grind (arith, nat_tests)

pub there_at : {V : Type 0} (all : V → List (List ℕ)) (xs : List V) (items : List (List (List ℕ))) (r k : ℕ) (v : V) → r < length xs → v ≡ get_or xs r v → map all xs ≡ items → ((q : ℕ) → q < length items → k ≤ length (get_or items q [])) → k ≤ length (all v)
there_at all xs items r k v h at same closed =
    let n : length items ≡ length xs = ap length (sym same) ∙ length-map xs all in
    let c : k ≤ length (get_or items r []) = closed r (omega (arith, n, h)) in
    let e : get_or items r [] ≡ all v = ap (λ ys. get_or ys r []) (sym same) ∙ words_at_rank all xs r v h at in
    let m : length (get_or items r []) ≡ length (all v) = ap length e in
    omega (arith, c, m)

-- ---- the last collective of a rank

is_rank : (xs : List (List (List ℕ))) (r k : ℕ) → length (get_or xs r []) ≡ k + 1 → r < length xs
is_rank [] r k e = absurd (omega (arith, e))
is_rank (x ∷ xs) zero k e = omega arith
is_rank (x ∷ xs) (suc r) k e = let h : r < length xs = is_rank xs r k e in omega (arith, h)

pub last_is_kept : (lists : Lists) (r k : ℕ) → AreKept lists → length (get_or (items_of lists) r []) ≡ k + 1 → IsKept lists k
last_is_kept lists r k kept e p = let h : get_or (starts_of lists) p 0 ≤ length (get_or (items_of lists) r []) - 1 = kept r (is_rank (items_of lists) r k e) p in omega (arith, h, e)

pub all_kept : (lists : Lists) → IsKept lists 0 → AreKept lists
all_kept lists kept q lt r = let h : get_or (starts_of lists) r 0 ≤ 0 = kept r in omega (arith, h)

pub same_kept : (lists new_lists : Lists) → items_of new_lists ≡ items_of lists → starts_of new_lists ≡ starts_of lists → AreKept lists → AreKept new_lists
same_kept lists new_lists e f kept q lt r =
    let l : q < length (items_of lists) = subst (λ (xs : List (List (List ℕ))). q < length xs) e lt in
    let h : get_or (starts_of lists) r 0 ≤ length (get_or (items_of lists) q []) - 1 = kept q l r in
    let n : length (get_or (items_of new_lists) q []) ≡ length (get_or (items_of lists) q []) = ap (λ xs. length (get_or xs q [])) e in
    let s : get_or (starts_of new_lists) r 0 ≡ get_or (starts_of lists) r 0 = ap (λ xs. get_or xs r 0) f in
    omega (arith, h, n, s)

pub kept_then : (lists new_lists : Lists) (r : ℕ) (w : List ℕ) → r < length (items_of lists) → items_of new_lists ≡ slice_set (items_of lists) r (get_or (items_of lists) r [] ++ w ∷ []) → starts_of new_lists ≡ starts_of lists → AreKept lists → AreKept new_lists
kept_then lists new_lists r w there e f kept q lt p =
    let long : length (items_of new_lists) ≡ length (items_of lists) = ap length e ∙ length-set (items_of lists) r (get_or (items_of lists) r [] ++ w ∷ []) in
    let l : q < length (items_of lists) = omega (arith, lt, long) in
    let h : get_or (starts_of lists) p 0 ≤ length (get_or (items_of lists) q []) - 1 = kept q l p in
    let m : length (get_or (items_of lists) q []) ≤ length (get_or (slice_set (items_of lists) r (get_or (items_of lists) r [] ++ w ∷ [])) q []) = longer (items_of lists) r w there q in
    let n : length (get_or (items_of new_lists) q []) ≡ length (get_or (slice_set (items_of lists) r (get_or (items_of lists) r [] ++ w ∷ [])) q []) = ap (λ xs. length (get_or xs q [])) e in
    let s : get_or (starts_of new_lists) p 0 ≡ get_or (starts_of lists) p 0 = ap (λ xs. get_or xs p 0) f in
    omega (arith, h, m, n, s)

pub kept_anew : (lists new_lists : Lists) (k : ℕ) → items_of new_lists ≡ items_of lists → All (λ n. n ≡ k) (starts_of new_lists) → ((r : ℕ) → r < length (items_of lists) → k < length (get_or (items_of lists) r [])) → AreKept new_lists
kept_anew lists new_lists k e all closed q lt r =
    let l : q < length (items_of lists) = subst (λ (xs : List (List (List ℕ))). q < length xs) e lt in
    let h : k < length (get_or (items_of lists) q []) = closed q l in
    let n : length (get_or (items_of new_lists) q []) ≡ length (get_or (items_of lists) q []) = ap (λ xs. length (get_or xs q [])) e in
    let s : get_or (starts_of new_lists) r 0 ≤ k = no_more (starts_of new_lists) k all r in
    omega (arith, h, n, s)

pub some_then : (lists new_lists : Lists) (r : ℕ) (w : List ℕ) → r < length (items_of lists) → items_of new_lists ≡ slice_set (items_of lists) r (get_or (items_of lists) r [] ++ w ∷ []) → 0 < length (get_or (items_of new_lists) r [])
some_then lists new_lists r w there e =
    let g : get_or (items_of new_lists) r [] ≡ get_or (items_of lists) r [] ++ w ∷ [] = ap (λ xs. get_or xs r []) e ∙ it (items_of lists) r w there in
    let n : length (get_or (items_of new_lists) r []) ≡ length (get_or (items_of lists) r []) + 1 = ap length g ∙ length-append (get_or (items_of lists) r []) (w ∷ []) in
    omega (arith, n)
