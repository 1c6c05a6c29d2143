-- A table is solvable exactly where it is with one variable gone, and the least numbers carry over.
use Rattle.std.proofs.Common.{◌≡◌, ℕ, suc, ◌+◌, ◌-◌, ◌*◌, ◌/◌, ◌%◌, ◌^◌, ◌<◌, ◌≤◌, ℤ, pos, ◌+ℤ◌, ◌-ℤ◌, ◌≤ℤ◌, int_le, if◌then◌else◌, Some, None, List, get_or, sym, ap, ◌∙◌, ◌≢◌, set, length, get_or-set_other, length-set, get_or-set_same, subst, arith, ◌⊎◌, inl, inr, Option}
use Rattle.std.proofs.lemmas.Int.{ints}
use Rattle.std.proofs.Math.Nat.{pow-succ', pow-le-pow_right}
use borrow.Author.Count.{below_more}
use Rattle.pb_diff.specs.Tables.{IsWithinIf, Holds, IsThere, cell, through, IsNearTable, HasLows, IsEliminated, Solves, HasNoSolution, reach, IsLeast, IsMet, IsAbove}
use Rattle.pb_diff.specs.Systems.{IsWithin, number}

-- what two bounds say together
pub through_holds : (d x y : Option ℤ) (p q r : ℤ) → Holds d (p -ℤ r) → Holds x (p -ℤ q) → Holds y (q -ℤ r) → Holds (through d x y) (p -ℤ r)
through_holds d None y p q r hd hx hy = hd
through_holds d (Some x) None p q r hd hx hy = hd
through_holds None (Some x) (Some y) p q r hd hx hy = omega (arith, ints)
through_holds (Some d) (Some x) (Some y) p q r hd hx hy = both d x y (p -ℤ r) hd (omega (arith, ints)) where
  both : (d x y u : ℤ) → u ≤ℤ d → u ≤ℤ (x +ℤ y) → u ≤ℤ (if int_le d (x +ℤ y) then d else (x +ℤ y))
  both d x y u h g = grind (arith, ints)

least_of : (d e u : ℤ) → u ≤ℤ (if int_le d e then d else e) → (u ≤ℤ d) × (u ≤ℤ e)
least_of d e u h = grind (arith, ints)

-- it is no weaker than the bound itself
pub through_direct : (d x y : Option ℤ) (u : ℤ) → Holds (through d x y) u → Holds d u
through_direct d None y u h = h
through_direct d (Some x) None u h = h
through_direct None (Some x) (Some y) u h = tt
through_direct (Some d) (Some x) (Some y) u h = (least_of d (x +ℤ y) u h).0

-- and no weaker than the way round
pub through_way : (d : Option ℤ) (x y u : ℤ) → Holds (through d (Some x) (Some y)) u → u ≤ℤ (x +ℤ y)
through_way None x y u h = h
through_way (Some d) x y u h = (least_of d (x +ℤ y) u h).1

pub down : (t u : List (Option ℤ)) (vars k : ℕ) (s : ℕ → ℤ) → suc k ≡ vars → k < 6 → IsEliminated k t u → Solves t vars s → Solves u k s
down t u vars k s suc_k few gone solves = record {
  bounds = λ a b la lb.
      let a6 : a < 6 = omega arith in
      let b6 : b < 6 = omega arith in
      let am : a < vars = omega arith in
      let bm : b < vars = omega arith in
      let km : k < vars = omega arith in
      rw (gone.cells a b a6 b6)
      (through_holds (cell t a b) (cell t a k) (cell t k b) (s a) (s k) (s b) (solves.bounds a b am bm) (solves.bounds a k am km) (solves.bounds k b km bm));
}

pub none_down : (t u : List (Option ℤ)) (vars k : ℕ) → suc k ≡ vars → k < 6 → IsEliminated k t u → HasNoSolution u k → HasNoSolution t vars
none_down t u vars k suc_k few gone fails = record { none = λ s s0 solves. fails.none s s0 (down t u vars k s suc_k few gone solves) }

-- a variable less than itself
pub none_here : (t : List (Option ℤ)) (vars k : ℕ) → suc k ≡ vars → (Holds (get_or t (7 * k) None) (pos 0) → ⊥) → HasNoSolution t vars
none_here t vars k suc_k fails = record {
  none = λ s s0 solves.
      let km : k < vars = omega arith in
      let e : 7 * k ≡ 6 * k + k = omega arith in
      let z : s k -ℤ s k ≡ pos 0 = omega (arith, ints) in
      fails (rw e (subst (λ d. Holds (cell t k k) d) z (solves.bounds k k km km)));
}

near_two : (r : ℕ) (d x y : Option ℤ) → IsWithinIf r d → IsWithinIf r x → IsWithinIf r y → IsWithinIf (2 * r) (through d x y)
near_two r None None y nd nx ny = tt
near_two r (Some d) None y nd nx ny = record { low = omega (arith, ints); high = omega (arith, ints) }
near_two r None (Some x) None nd nx ny = tt
near_two r (Some d) (Some x) None nd nx ny = record { low = omega (arith, ints); high = omega (arith, ints) }
near_two r None (Some x) (Some y) nd nx ny = record { low = omega (arith, ints); high = omega (arith, ints) }
near_two r (Some d) (Some x) (Some y) nd nx ny = record { low = low_of d (x +ℤ y) (omega (arith, ints)) (omega (arith, ints)); high = high_of d (x +ℤ y) (omega (arith, ints)) (omega (arith, ints)) } where
  low_of : (d e : ℤ) → pos 0 ≤ℤ (d +ℤ pos (2 * r)) → pos 0 ≤ℤ (e +ℤ pos (2 * r)) → pos 0 ≤ℤ ((if int_le d e then d else e) +ℤ pos (2 * r))
  low_of d e h g = grind (arith, ints)

  high_of : (d e : ℤ) → d ≤ℤ pos (2 * r) → e ≤ℤ pos (2 * r) → (if int_le d e then d else e) ≤ℤ pos (2 * r)
  high_of d e h g = grind (arith, ints)

pub reach_twice : (vars k : ℕ) → suc k ≡ vars → vars ≤ 6 → reach k ≡ 2 * reach vars
unfolding reach
reach_twice vars k e few =
    let more : 46 - k ≡ suc (46 - vars) = omega arith in
    ap (λ n. 2 ^ n) more ∙ pow-succ' 2 (46 - vars)

pub reach_most : (vars : ℕ) → 0 < vars → reach vars ≤ 2 ^ 45
unfolding reach
reach_most vars some =
    let two : 0 < 2 = omega arith in
    let le : 46 - vars ≤ 45 = omega arith in
    pow-le-pow_right {n = 2} two {i = 46 - vars} {j = 45} le

pub reach_least : (vars : ℕ) → vars ≤ 6 → 2 ^ 40 ≤ reach vars
unfolding reach
reach_least vars few =
    let two : 0 < 2 = omega arith in
    let le : 40 ≤ 46 - vars = omega arith in
    pow-le-pow_right {n = 2} two {i = 40} {j = 46 - vars} le

pub near_eliminated : (t u : List (Option ℤ)) (vars k : ℕ) → suc k ≡ vars → vars ≤ 6 → IsEliminated k t u → IsNearTable (reach vars) t → IsNearTable (reach k) u
near_eliminated t u vars k suc_k few gone near = record {
  cells = λ j lt.
      let a6 : j / 6 < 6 = omega arith in
      let b6 : j % 6 < 6 = omega arith in
      let here : 6 * (j / 6) + j % 6 ≡ j = omega arith in
      let e : get_or u j None ≡ through (get_or t j None) (cell t (j / 6) k) (cell t k (j % 6)) = subst (λ i. get_or u i None ≡ through (get_or t i None) (cell t (j / 6) k) (cell t k (j % 6))) here (gone.cells (j / 6) (j % 6) a6 b6) in
      let to_k : 6 * (j / 6) + k < 36 = omega arith in
      let from_k : 6 * k + j % 6 < 36 = omega arith in
      rw (e, reach_twice vars k suc_k few)
      (near_two (reach vars) (get_or t j None) (cell t (j / 6) k) (cell t k (j % 6)) (near.cells j lt) (near.cells (6 * (j / 6) + k) to_k) (near.cells (6 * k + j % 6) from_k));
}

there_direct : (d x y : Option ℤ) → IsThere d → IsThere (through d x y)
there_direct None x y h = absurd h
there_direct (Some d) None y h = tt
there_direct (Some d) (Some x) None h = tt
there_direct (Some d) (Some x) (Some y) h = tt

pub lows_eliminated : (t u : List (Option ℤ)) (vars k : ℕ) → suc k ≡ vars → vars ≤ 6 → IsEliminated k t u → HasLows t vars → HasLows u k
lows_eliminated t u vars k suc_k few gone lows = record {
  lows = λ v some lt.
      let v6 : v < 6 = omega arith in
      let zero6 : 0 < 6 = omega arith in
      let vm : v < vars = omega arith in
      rw (gone.cells 0 v zero6 v6) (there_direct (cell t 0 v) (cell t 0 k) (cell t k v) (lows.lows v some vm));
}

within_more : (r s : ℕ) (x : ℤ) → r ≤ s → IsWithin r x → IsWithin s x
within_more r s x le h = record { low = omega (arith, ints); high = omega (arith, ints) }

pub near_more : (r s : ℕ) (t : List (Option ℤ)) → r ≤ s → IsNearTable r t → IsNearTable s t
near_more r s t le near = record { cells = λ j lt. at (get_or t j None) (near.cells j lt) } where
  at : (o : Option ℤ) → IsWithinIf r o → IsWithinIf s o
  at None h = tt
  at (Some c) h = within_more r s c le h

split : (a k vars : ℕ) → suc k ≡ vars → a < vars → (a < k) ⊎ (a ≡ k)
split a k vars e lt = grind arith

-- the way back from the variable, by the bound that it meets
way_back : (d o : Option ℤ) (c p q y : ℤ) → y ≡ p -ℤ c → Holds (through d (Some c) o) (p -ℤ q) → Holds o (y -ℤ q)
way_back d None c p q y e h = tt
way_back d (Some f) c p q y e h = back (through_way d c f (p -ℤ q) h) where
  back : (p -ℤ q) ≤ℤ (c +ℤ f) → (y -ℤ q) ≤ℤ f
  back le = omega (arith, ints)

pub solves_up : (t u : List (Option ℤ)) (vars k : ℕ) (xs : List ℤ) (r : ℕ → ℤ) (y : ℤ) → suc k ≡ vars → vars ≤ 6 → IsEliminated k t u → Holds (get_or t (7 * k) None) (pos 0) → Solves u k (number xs) → IsAbove t xs k k y → IsMet t xs k k y → ((v : ℕ) → v < k → r v ≡ number xs v) → r k ≡ y → Solves t vars r
solves_up t u vars k xs r y suc_k few gone here solves above met other same = record {
  bounds = λ a b la lb.
      elim (split a k vars suc_k la) [
        | inl a_lt ↦ elim (split b k vars suc_k lb) [ inl b_lt ↦ both a b a_lt b_lt | inr e ↦ subst (λ v. Holds (cell t a v) (r a -ℤ r v)) (sym e) (to_it a a_lt) ]
        | inr e ↦ subst (λ v. Holds (cell t v b) (r v -ℤ r b)) (sym e) (elim (split b k vars suc_k lb) [ inl b_lt ↦ from_it b b_lt | inr f ↦ subst (λ v. Holds (cell t k v) (r k -ℤ r v)) (sym f) itself ])
      ];
} where
  both : (a b : ℕ) → a < k → b < k → Holds (cell t a b) (r a -ℤ r b)
  both a b a_lt b_lt =
      let a6 : a < 6 = omega arith in
      let b6 : b < 6 = omega arith in
      rw (other a a_lt, other b b_lt)
      (through_direct (cell t a b) (cell t a k) (cell t k b) (number xs a -ℤ number xs b)
      (subst (λ o. Holds o (number xs a -ℤ number xs b)) (gone.cells a b a6 b6) (solves.bounds a b a_lt b_lt)))

  to_it : (a : ℕ) → a < k → Holds (cell t a k) (r a -ℤ r k)
  to_it a a_lt = rw (other a a_lt, same) (above.holds a a_lt)

  from_it : (b : ℕ) → b < k → Holds (cell t k b) (r k -ℤ r b)
  from_it b b_lt =
      let below : met.a < k = met.below in
      let a6 : met.a < 6 = omega arith in
      let b6 : b < 6 = omega arith in
      let d = number xs met.a -ℤ number xs b in
      let asked : Holds (cell u met.a b) d = solves.bounds met.a b below b_lt in
      let by_way : Holds (through (cell t met.a b) (cell t met.a k) (cell t k b)) d = subst (λ o. Holds o d) (gone.cells met.a b a6 b6) asked in
      let by_c : Holds (through (cell t met.a b) (Some met.c) (cell t k b)) d = subst (λ o. Holds (through (cell t met.a b) o (cell t k b)) d) met.bound by_way in
      rw (same, other b b_lt) (way_back (cell t met.a b) (cell t k b) met.c (number xs met.a) (number xs b) y met.is by_c)

  itself : Holds (cell t k k) (r k -ℤ r k)
  itself =
      let e : 7 * k ≡ 6 * k + k = omega arith in
      let z : pos 0 ≡ r k -ℤ r k = omega (arith, ints) in
      subst (λ d. Holds (cell t k k) d) z (subst (λ j. Holds (get_or t j None) (pos 0)) e here)

-- the number of the last variable is needed
met_least : (t : List (Option ℤ)) (vars k : ℕ) (xs : List ℤ) (s : ℕ → ℤ) (y : ℤ) → suc k ≡ vars → IsMet t xs k k y → Solves t vars s → ((v : ℕ) → v < k → number xs v ≤ℤ s v) → y ≤ℤ s k
met_least t vars k xs s y suc_k met solves least =
    let below : met.a < k = met.below in
    let am : met.a < vars = omega arith in
    let km : k < vars = omega arith in
    let asked : (s met.a -ℤ s k) ≤ℤ met.c = subst (λ o. Holds o (s met.a -ℤ s k)) met.bound (solves.bounds met.a k am km) in
    let le : number xs met.a ≤ℤ s met.a = least met.a below in
    let is : y ≡ number xs met.a -ℤ met.c = met.is in
    omega (arith, ints)

within_next : (r q : ℕ) (x y c : ℤ) → r ≡ 2 * q → r ≤ 2 ^ 45 → IsWithin (2 ^ 45 - r) x → IsWithin q c → y ≡ x -ℤ c → IsWithin (2 ^ 45 - q) y
within_next r q x y c e le nx nc is = record { low = omega (arith, ints); high = omega (arith, ints) }

met_near : (t : List (Option ℤ)) (vars k : ℕ) (xs : List ℤ) (y : ℤ) → suc k ≡ vars → vars ≤ 6 → 0 < k → IsNearTable (reach vars) t → ((v : ℕ) → IsWithin (2 ^ 45 - reach k) (number xs v)) → IsMet t xs k k y → IsWithin (2 ^ 45 - reach vars) y
met_near t vars k xs y suc_k few some near close met =
    let below : met.a < k = met.below in
    let j36 : 6 * met.a + k < 36 = omega arith in
    let nc : IsWithin (reach vars) met.c = subst (λ o. IsWithinIf (reach vars) o) met.bound (near.cells (6 * met.a + k) j36) in
    within_next (reach k) (reach vars) (number xs met.a) y met.c (reach_twice vars k suc_k few) (reach_most k some) (close met.a) nc met.is

pub extended : (t u : List (Option ℤ)) (vars k : ℕ) (xs : List ℤ) (y : ℤ) → suc k ≡ vars → vars ≤ 6 → 0 < k → IsEliminated k t u → IsNearTable (reach vars) t → Holds (get_or t (7 * k) None) (pos 0) → IsLeast u k xs → IsAbove t xs k k y → IsMet t xs k k y → IsLeast t vars (set xs k y)
extended t u vars k xs y suc_k few some gone near here old above met = record {
  size = simp length-set old.size;
  zero_first = other 0 (omega arith) ∙ old.zero_first;
  solves = solves_up t u vars k xs (number (set xs k y)) y suc_k few gone here old.solves above met (λ v lt. other v (omega arith)) same;
  least = λ s s0 solves v lt.
      let k6 : k < 6 = omega arith in
      let below : (w : ℕ) → w < k → number xs w ≤ℤ s w = old.least s s0 (down t u vars k s suc_k k6 gone solves) in
      elim (split v k vars suc_k lt) [
        | inl v_lt ↦ rw (other v (omega arith)) (below v v_lt)
        | inr e ↦ subst (λ w. number (set xs k y) w ≤ℤ s w) (sym e) (rw same (met_least t vars k xs s y suc_k met solves below))
      ];
  rest = λ v le. let le_k : k ≤ v = omega arith in other v (omega arith) ∙ old.rest v le_k;
  near = λ v. elim (apart v) [
    | inl ne ↦ rw (other v ne) (within_more (2 ^ 45 - reach k) (2 ^ 45 - reach vars) (number xs v) fewer (old.near v))
    | inr e ↦ subst (λ w. IsWithin (2 ^ 45 - reach vars) (number (set xs k y) w)) (sym e) (rw same (met_near t vars k xs y suc_k few some near old.near met))
  ];
} where
  other : (v : ℕ) → v ≢ k → number (set xs k y) v ≡ number xs v
  other v ne = get_or-set_other xs k v y (pos 0) ne

  same : number (set xs k y) k ≡ y
  same = let room : k < length xs = omega (arith, old.size) in get_or-set_same xs k y (pos 0) room

  apart : (v : ℕ) → (v ≢ k) ⊎ (v ≡ k)
  apart v = grind arith

  fewer : 2 ^ 45 - reach k ≤ 2 ^ 45 - reach vars
  fewer = omega (arith, reach_twice vars k suc_k few)

-- one variable, which is 0
pub first_least : (t : List (Option ℤ)) (vars : ℕ) (xs : List ℤ) → 1 ≡ vars → length xs ≡ 6 → Holds (get_or t (7 * 0) None) (pos 0) → ((v : ℕ) → number xs v ≡ pos 0) → IsLeast t vars xs
first_least t vars xs e size here zeros = record {
  size = size;
  zero_first = zeros 0;
  solves = record {
    bounds = λ a b la lb.
        let a0 : 0 ≡ a = omega arith in
        let b0 : 0 ≡ b = omega arith in
        rw (zeros a, zeros b) (subst (λ j. Holds (get_or t j None) (pos 0)) (at_zero a b a0 b0) here);
  };
  least = λ s s0 solves v lt.
      let v0 : 0 ≡ v = omega arith in
      let e : s v ≡ pos 0 = ap s (sym v0) ∙ s0 in
      rw (zeros v, e) (omega (arith, ints));
  rest = λ v le. zeros v;
  near = λ v. rw (zeros v) (record { low = omega (arith, ints); high = omega (arith, ints) });
} where
  at_zero : (a b : ℕ) → 0 ≡ a → 0 ≡ b → 7 * 0 ≡ 6 * a + b
  at_zero a b p q = omega arith

-- the step of `raised`
weaker : (o : Option ℤ) (x y z : ℤ) → y ≤ℤ z → Holds o (x -ℤ y) → Holds o (x -ℤ z)
weaker None x y z le h = tt
weaker (Some c) x y z le h = omega (arith, ints)

pub above_step : (t : List (Option ℤ)) (xs : List ℤ) (k count end : ℕ) (c rest y : ℤ) → count ≡ end + 1 → cell t end k ≡ Some c → IsAbove t xs k end rest → rest ≤ℤ y → (number xs end -ℤ c) ≤ℤ y → IsAbove t xs k count y
above_step t xs k count end c rest y e bound above le own = record {
  holds = λ a lt.
      let lt_end : a < end + 1 = omega arith in
      below_more (λ v. Holds (cell t v k) (number xs v -ℤ y)) end (λ v v_lt. weaker (cell t v k) (number xs v) rest y le (above.holds v v_lt)) (rw bound (omega (arith, ints))) a lt_end;
}

pub met_step : (t : List (Option ℤ)) (xs : List ℤ) (k count end : ℕ) (y : ℤ) → end ≤ count → IsMet t xs k end y → IsMet t xs k count y
met_step t xs k count end y le met = let below : met.a < end = met.below in record { a = met.a; below = omega arith; c = met.c; bound = met.bound; is = met.is }

pub met_here : (t : List (Option ℤ)) (xs : List ℤ) (k count end : ℕ) (c y : ℤ) → count ≡ end + 1 → cell t end k ≡ Some c → y ≡ number xs end -ℤ c → IsMet t xs k count y
met_here t xs k count end c y e bound is = record { a = end; below = omega arith; c = c; bound = bound; is = is }
