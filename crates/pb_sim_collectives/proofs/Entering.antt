-- What one more entry changes.
use Rattle.std.proofs.Common.{◌≡◌, ◌<◌, ◌≤◌, ℕ, zero, suc, ◌+◌, Bool, true, false, nat_eq, nat_lt, if◌then◌else◌, Option, Some, None, List, [], ◌∷◌, ◌++◌, map, length, get_or, ap, ◌∙◌, sym, refl, arith, length-append, length-set, get_or-set_same, get_or-set_other, subst, ◌^◌, ◌≢◌, inl, inr}
use Rattle.std.specs.List.{sum_by, slice_get, slice_set}
use Rattle.std.proofs.lemmas.List.Sums.{sum_by-set, sum_by-cons}
use Rattle.std.proofs.lemmas.Bool.{cases_eq}
use Rattle.std.proofs.lemmas.Bool.Decides.{nat_tests}
use Rattle.std.proofs.Math.ListN.{set}
use Rattle.pb_world.specs.Actions.{Collective}
use Rattle.pb_sim_collectives.specs.declared.call.Call.{Call}
use Rattle.pb_sim_collectives.specs.declared.rounds.Round.{Round}
use Rattle.pb_sim_collectives.specs.Calls.{collective_of, is_same}
use Rattle.pb_sim_collectives.specs.declared.rounds.Rounds.{Rounds}
use Rattle.pb_sim_collectives.specs.declared.lists.Lists.{Lists}
use Rattle.pb_sim_collectives.specs.Joined.{Joined, number, came_to, came, fits_with, entered}
use Rattle.pb_sim_collectives.specs.Lists.{items_of, replicated}
use Rattle.pb_sim_collectives.specs.Seen.{shown, IsSeen}
use Rattle.pb_sim_collectives.specs.Rounds.{call_at, came_at, with_one}

pub call_is : (xs : List Round) (k : ℕ) → call_at xs k ≡ slice_get (map (λ x. x.call) xs) k
call_is [] k = refl
call_is (x ∷ xs) zero = refl
call_is (x ∷ xs) (suc k) = call_is xs k

fits_in : Option Call → Collective → Bool
fits_in None j = true
fits_in (Some i) j = is_same (collective_of i) j

pub fits_none : (xs : List Round) (k : ℕ) (j : Collective) → call_at xs k ≡ None → fits_with (slice_get (map collective_of (map (λ x. x.call) xs)) k) j ≡ true
fits_none [] k j e = refl
fits_none (x ∷ xs) zero j e = cc
fits_none (x ∷ xs) (suc k) j e = fits_none xs k j e

pub fits_some : (xs : List Round) (k : ℕ) (j : Collective) (call : Call) → call_at xs k ≡ Some call → fits_with (slice_get (map collective_of (map (λ x. x.call) xs)) k) j ≡ is_same (collective_of call) j
fits_some [] k j call e = cc
fits_some (x ∷ xs) zero j call e = let h : x.call ≡ call = cc in ap (λ c. is_same (collective_of c) j) h
fits_some (x ∷ xs) (suc k) j call e = fits_some xs k j call e

-- ---- rounds

pub calls_then : (xs : List Round) (k : ℕ) (call : Call) → map (λ x. x.call) (with_one xs k call) ≡ (if nat_lt k (length (map (λ x. x.call) xs)) then map (λ x. x.call) xs else map (λ x. x.call) xs ++ call ∷ [])
calls_then [] k call = let e : nat_lt k 0 ≡ false = grind arith in rw e refl
calls_then (x ∷ xs) zero call = let e : nat_lt 0 (suc (length (map (λ x. x.call) xs))) ≡ true = grind arith in rw e refl
calls_then (x ∷ xs) (suc k) call =
    let e : nat_lt (suc k) (suc (length (map (λ x. x.call) xs))) ≡ nat_lt k (length (map (λ x. x.call) xs)) = grind arith in
    rw e (ap (λ ys. x.call ∷ ys) (calls_then xs k call) ∙ both (nat_lt k (length (map (λ x. x.call) xs)))) where
      both : (b : Bool) → x.call ∷ (if b then map (λ x. x.call) xs else map (λ x. x.call) xs ++ call ∷ []) ≡ (if b then x.call ∷ map (λ x. x.call) xs else (x.call ∷ map (λ x. x.call) xs) ++ call ∷ [])
      both true = refl
      both false = refl

pub came_then : (xs : List Round) (k : ℕ) (call : Call) (j : ℕ) → k ≤ length xs → came_at (with_one xs k call) j ≡ came_at xs j + (if nat_eq j k then 1 else 0)
came_then [] zero call zero h = refl
came_then [] zero call (suc j) h = let e : nat_eq (suc j) 0 ≡ false = grind arith in rw e refl
came_then [] (suc k) call j h = absurd (omega (arith, h))
came_then (x ∷ xs) zero call zero h = refl
came_then (x ∷ xs) zero call (suc j) h = let e : nat_eq (suc j) 0 ≡ false = grind arith in rw e (omega arith)
came_then (x ∷ xs) (suc k) call zero h = let e : nat_eq 0 (suc k) ≡ false = grind arith in rw e (omega arith)
came_then (x ∷ xs) (suc k) call (suc j) h = let e : nat_eq (suc j) (suc k) ≡ nat_eq j k = grind arith in rw e (came_then xs k call j (omega (arith, h)))

pub with_one_long : (xs : List Round) (k : ℕ) (call : Call) → k ≤ length xs → (k < length (with_one xs k call)) × (length xs ≤ length (with_one xs k call))
with_one_long [] zero call h = (omega arith, omega arith)
with_one_long [] (suc k) call h = absurd (omega (arith, h))
with_one_long (x ∷ xs) zero call h = (omega arith, omega arith)
with_one_long (x ∷ xs) (suc k) call h = let p = with_one_long xs k call (omega (arith, h)) in let a : k < length (with_one xs k call) = p.0 in let b : length xs ≤ length (with_one xs k call) = p.1 in (omega (arith, a), omega (arith, b))

-- ---- lists

pub came_more : (j : ℕ) (ws : List (List ℕ)) (w : List ℕ) → came_to j (ws ++ w ∷ []) ≡ came_to j ws + (if nat_eq j (length ws) then 1 else 0)
came_more j ws w = let n : length (ws ++ w ∷ []) ≡ length ws + 1 = length-append ws (w ∷ []) in grind (arith, n)

pub came_set : (j : ℕ) (xs : List (List (List ℕ))) (r : ℕ) (w : List ℕ) → r < length xs → sum_by (came_to j) (slice_set xs r (get_or xs r [] ++ w ∷ [])) ≡ sum_by (came_to j) xs + (if nat_eq j (length (get_or xs r [])) then 1 else 0)
came_set j xs r w h =
    let s : sum_by (came_to j) (set xs r (get_or xs r [] ++ w ∷ [])) + came_to j (get_or xs r []) ≡ sum_by (came_to j) xs + came_to j (get_or xs r [] ++ w ∷ []) = sum_by-set (came_to j) xs r (get_or xs r [] ++ w ∷ []) [] h in
    let m : came_to j (get_or xs r [] ++ w ∷ []) ≡ came_to j (get_or xs r []) + (if nat_eq j (length (get_or xs r [])) then 1 else 0) = came_more j (get_or xs r []) w in
    omega (arith, s, m)

at_most_one : (j : ℕ) (ws : List (List ℕ)) → came_to j ws ≤ 1
at_most_one j ws = by (nat_lt j (length ws)) where
  by : (b : Bool) → (if b then 1 else 0) ≤ 1
  by true = omega arith
  by false = omega arith

pub came_few : (j : ℕ) (xs : List (List (List ℕ))) → sum_by (came_to j) xs ≤ length xs
came_few j [] = omega arith
came_few j (x ∷ xs) =
    let h : sum_by (came_to j) xs ≤ length xs = came_few j xs in
    let c : sum_by (came_to j) (x ∷ xs) ≡ came_to j x + sum_by (came_to j) xs = sum_by-cons (came_to j) x xs in
    let o : came_to j x ≤ 1 = at_most_one j x in
    omega (arith, h, c, o)

-- where as many have come as there are, each has
pub each_came : (k : ℕ) (xs : List (List (List ℕ))) → sum_by (came_to k) xs ≡ length xs → (q : ℕ) → q < length xs → k < length (get_or xs q [])
each_came k [] e q h = absurd (omega (arith, h))
each_came k (x ∷ xs) e q h = by_place q h (each_came k xs others) where
  c : sum_by (came_to k) (x ∷ xs) ≡ came_to k x + sum_by (came_to k) xs
  c = sum_by-cons (came_to k) x xs

  u : sum_by (came_to k) xs ≤ length xs
  u = came_few k xs

  it : k < length x
  it = by_case (nat_lt k (length x)) refl where
    by_case : (b : Bool) → nat_lt k (length x) ≡ b → k < length x
    by_case true f = grind (arith, nat_tests)
    by_case false f = let z : came_to k x ≡ 0 = ap (λ b. if b then 1 else 0) f in absurd (omega (arith, c, u, z, e))

  others : sum_by (came_to k) xs ≡ length xs
  others = let z : came_to k x ≡ 1 = ap (λ b. if b then 1 else 0) (true_of it) in omega (arith, c, z, e) where
    true_of : k < length x → nat_lt k (length x) ≡ true
    true_of h = grind (arith, nat_tests)

  by_place : (q : ℕ) → q < suc (length xs) → ((q : ℕ) → q < length xs → k < length (get_or xs q [])) → k < length (get_or (x ∷ xs) q [])
  by_place zero h f = it
  by_place (suc q) h f = f q (omega (arith, h))

-- ---- both

number_then : (xs : List (List (List ℕ))) (r : ℕ) (w : List ℕ) (q : ℕ) (most more : ℕ) → r < length xs → length (get_or xs q []) ≤ most → most ≤ more → length (get_or xs r []) < more → length (get_or (slice_set xs r (get_or xs r [] ++ w ∷ [])) q []) ≤ more
number_then xs r w q most more h a b c = elim (cases_eq q r) [ inl e ↦ same e | inr e ↦ other e ] where
  same : q ≡ r → length (get_or (slice_set xs r (get_or xs r [] ++ w ∷ [])) q []) ≤ more
  same e =
      let g : get_or (set xs r (get_or xs r [] ++ w ∷ [])) r [] ≡ get_or xs r [] ++ w ∷ [] = get_or-set_same xs r (get_or xs r [] ++ w ∷ []) [] h in
      let n : length (get_or xs r [] ++ w ∷ []) ≡ length (get_or xs r []) + 1 = length-append (get_or xs r []) (w ∷ []) in
      rw e (rw g (omega (arith, n, c)))

  other : q ≢ r → length (get_or (slice_set xs r (get_or xs r [] ++ w ∷ [])) q []) ≤ more
  other e =
      let g : get_or (set xs r (get_or xs r [] ++ w ∷ [])) q [] ≡ get_or xs q [] = get_or-set_other xs r q (get_or xs r [] ++ w ∷ []) [] e in
      rw g (omega (arith, a, b))

pub seen_then : (rounds new_rounds : Rounds) (lists new_lists : Lists) (total r k : ℕ) (call : Call) (w : List ℕ) → IsSeen rounds lists total → r < length (items_of lists) → k ≡ length (get_or (items_of lists) r []) → new_rounds.list.items ≡ with_one rounds.list.items k call → items_of new_lists ≡ slice_set (items_of lists) r (get_or (items_of lists) r [] ++ w ∷ []) → IsSeen new_rounds new_lists total
seen_then rounds new_rounds lists new_lists total r k call w s h n e f = record { long = long; exact = exact; short = short } where
  few : k ≤ length rounds.list.items
  few = let u : number (shown rounds lists) r ≤ length rounds.list.items = s.short r in rw n u

  long : length (items_of new_lists) ≡ total
  long = ap length f ∙ length-set (items_of lists) r (get_or (items_of lists) r [] ++ w ∷ []) ∙ s.long

  exact : (j : ℕ) → came_at new_rounds.list.items j ≡ came (shown new_rounds new_lists) j
  exact j =
      ap (λ xs. came_at xs j) e ∙ came_then rounds.list.items k call j few ∙ ap (λ m. m + (if nat_eq j k then 1 else 0)) (s.exact j)
      ∙ ap (λ m. sum_by (came_to j) (items_of lists) + (if nat_eq j m then 1 else 0)) n
      ∙ sym (came_set j (items_of lists) r w h) ∙ ap (sum_by (came_to j)) (sym f)

  short : (q : ℕ) → number (shown new_rounds new_lists) q ≤ length new_rounds.list.items
  short q =
      let p = with_one_long rounds.list.items k call few in
      let a : k < length (with_one rounds.list.items k call) = p.0 in
      let z : length (get_or (items_of lists) r []) < length (with_one rounds.list.items k call) = subst (λ (m : ℕ). m < length (with_one rounds.list.items k call)) n a in
      rw (e, f) (number_then (items_of lists) r w q (length rounds.list.items) (length (with_one rounds.list.items k call)) h (s.short q) p.1 z)

pub shown_then : (rounds new_rounds : Rounds) (lists new_lists : Lists) (r k : ℕ) (call : Call) (w : List ℕ) → k ≡ length (get_or (items_of lists) r []) → new_rounds.list.items ≡ with_one rounds.list.items k call → items_of new_lists ≡ slice_set (items_of lists) r (get_or (items_of lists) r [] ++ w ∷ []) → shown new_rounds new_lists ≡ entered (shown rounds lists) r call w
shown_then rounds new_rounds lists new_lists r k call w n e f =
    let c : map (λ x. x.call) new_rounds.list.items ≡ (if nat_lt (number (shown rounds lists) r) (length (map (λ x. x.call) rounds.list.items)) then map (λ x. x.call) rounds.list.items else map (λ x. x.call) rounds.list.items ++ call ∷ []) = ap (map (λ x. x.call)) e ∙ calls_then rounds.list.items k call ∙ ap (λ m. if nat_lt m (length (map (λ x. x.call) rounds.list.items)) then map (λ x. x.call) rounds.list.items else map (λ x. x.call) rounds.list.items ++ call ∷ []) n in
    both _ _ _ _ c f where
      both : (a b : List Call) (v z : List (List (List ℕ))) → a ≡ b → v ≡ z → ◌≡◌ {A = Joined} (record { calls = a; words = v }) (record { calls = b; words = z })
      both a b v z g h = cc

pub few_then : (rounds : Rounds) (lists : Lists) (total k : ℕ) → IsSeen rounds lists total → total < 2 ^ 32 → came_at rounds.list.items k < 2 ^ 63
few_then rounds lists total k s h =
    let a : came_at rounds.list.items k ≡ came (shown rounds lists) k = s.exact k in
    let b : came (shown rounds lists) k ≤ length (items_of lists) = came_few k (items_of lists) in
    let d : length (items_of lists) ≡ total = s.long in
    omega (arith, a, b, d, h)

-- ---- nothing yet

none_came : (n j : ℕ) → sum_by (came_to j) (replicated n) ≡ 0
none_came zero j = refl
none_came (suc n) j =
    let c : sum_by (came_to j) (replicated (suc n)) ≡ came_to j [] + sum_by (came_to j) (replicated n) = sum_by-cons (came_to j) [] (replicated n) in
    let h : sum_by (came_to j) (replicated n) ≡ 0 = none_came n j in
    let z : nat_lt j 0 ≡ false = grind arith in
    let y : came_to j [] ≡ 0 = rw z refl in
    omega (arith, c, h, y)

pub none_there : (n r : ℕ) → get_or (replicated n) r [] ≡ []
none_there zero r = refl
none_there (suc n) zero = refl
none_there (suc n) (suc r) = none_there n r

pub so_many : (n : ℕ) → length (replicated n) ≡ n
so_many zero = refl
so_many (suc n) = ap suc (so_many n)

pub seen_first : (rounds : Rounds) (lists : Lists) (total : ℕ) → rounds.list.items ≡ [] → items_of lists ≡ replicated total → IsSeen rounds lists total
seen_first rounds lists total e f = record { long = long; exact = exact; short = short } where
  long : length (items_of lists) ≡ total
  long = ap length f ∙ so_many total

  exact : (k : ℕ) → came_at rounds.list.items k ≡ came (shown rounds lists) k
  exact k = ap (λ xs. came_at xs k) e ∙ sym (none_came total k) ∙ ap (sum_by (came_to k)) (sym f)

  short : (r : ℕ) → number (shown rounds lists) r ≤ length rounds.list.items
  short r = let n : length (get_or (items_of lists) r []) ≡ 0 = ap (λ xs. length (get_or xs r [])) f ∙ ap length (none_there total r) in omega (arith, n)

-- ---- the same words

pub seen_same : (rounds new_rounds : Rounds) (lists new_lists : Lists) (total : ℕ) → new_rounds.list.items ≡ rounds.list.items → items_of new_lists ≡ items_of lists → IsSeen rounds lists total → IsSeen new_rounds new_lists total
seen_same rounds new_rounds lists new_lists total e f s = record { long = ap length f ∙ s.long; exact = exact; short = short } where
  exact : (k : ℕ) → came_at new_rounds.list.items k ≡ came (shown new_rounds new_lists) k
  exact k = ap (λ xs. came_at xs k) e ∙ s.exact k ∙ ap (sum_by (came_to k)) (sym f)

  short : (r : ℕ) → number (shown new_rounds new_lists) r ≤ length new_rounds.list.items
  short r =
      let n : length (get_or (items_of new_lists) r []) ≡ length (get_or (items_of lists) r []) = ap (λ xs. length (get_or xs r [])) f in
      let m : length new_rounds.list.items ≡ length rounds.list.items = ap length e in
      let h : length (get_or (items_of lists) r []) ≤ length rounds.list.items = s.short r in
      omega (arith, n, m, h)

pub shown_same : (rounds new_rounds : Rounds) (lists new_lists : Lists) → new_rounds.list.items ≡ rounds.list.items → items_of new_lists ≡ items_of lists → shown new_rounds new_lists ≡ shown rounds lists
shown_same rounds new_rounds lists new_lists e f = both _ _ _ _ (ap (map (λ x. x.call)) e) f where
  both : (a b : List Call) (v z : List (List (List ℕ))) → a ≡ b → v ≡ z → ◌≡◌ {A = Joined} (record { calls = a; words = v }) (record { calls = b; words = z })
  both a b v z g h = cc
