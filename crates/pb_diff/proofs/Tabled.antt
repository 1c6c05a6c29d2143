-- A list of constraints, put into a table one by one.
use Rattle.std.proofs.Common.{◌≡◌, ℕ, zero, suc, ◌+◌, ◌*◌, ◌^◌, ◌<◌, ◌≤◌, ℤ, pos, ◌+ℤ◌, ◌-ℤ◌, ◌≤ℤ◌, int_le, nat_eq, if◌then◌else◌, Some, None, List, [], ◌∷◌, get_or, set, length, take, replicate, refl, sym, ap, ◌∙◌, subst, arith, ◌⊎◌, inl, inr, Option, ◌≢◌, true, false, ◌&&◌, get_or-set_other, get_or-set_same, length-set, Bool, MatchOption}
use Rattle.std.proofs.lemmas.Int.{ints}
use Rattle.std.proofs.lemmas.List.Elements.{All-nil, All-more, All-get_or}
use Rattle.std.specs.List.{All}
use borrow.Author.Count.{below_more}
use Rattle.pb_diff.specs.declared.constraint.Constraint.{Constraint}
use Rattle.pb_diff.specs.Systems.{Differences, Keeps, IsAllowed, IsBoundedBelow, IsLeastSolution, IsUnsolvable, has_pair, is_on, at}
use Rattle.pb_diff.specs.Tables.{IsWithinIf, Holds, IsThere, cell, through, IsNearTable, HasLows, Solves, HasNoSolution, IsLeast}
use Rattle.pb_diff.specs.Systems.{IsWithin, number}
use Rattle.pb_diff.proofs.Elimination.{through_direct, through_way, through_holds}

abbrev pub no_one : Constraint
no_one = record { a = 0; b = 0; c = pos 0 }

-- the table stands for the first constraints
pub record IsTableOf (vars : ℕ) (list : List Constraint) (done : ℕ) (t : List (Option ℤ)) : Type 0 where
  pub size : length t ≡ 36
  pub near : IsNearTable (2 ^ 40) t
  pub asks : (s : ℕ → ℤ) → Solves t vars s → All (Keeps s) (take done list)
  pub only : (s : ℕ → ℤ) → All (Keeps s) list → Solves t vars s
  pub there : (i : ℕ) → i < done → IsThere (cell t (at list i).a (at list i).b)

same_or_not : (j i : ℕ) → (j ≡ i) ⊎ (j ≢ i)
same_or_not j i = grind arith

-- a cell of the table with one more constraint
both_cells : (t : List (Option ℤ)) (a b p q : ℕ) (o : Option ℤ) (P : ℕ → ℕ → Option ℤ → Type 0) → length t ≡ 36 → a < 6 → b < 6 → p < 6 → q < 6 → P p q o → P a b (cell t a b) → P a b (cell (set t (6 * p + q) o) a b)
both_cells t a b p q o P size la lb lp lq here there =
    elim (same_or_not (6 * a + b) (6 * p + q)) [
      | inl e ↦
          let room : 6 * p + q < length t = omega (arith, size) in
          let ea : p ≡ a = omega arith in
          let eb : q ≡ b = omega arith in
          subst (λ z. P a b (get_or (set t (6 * p + q) o) z None)) (sym e) (rw (get_or-set_same t (6 * p + q) o None room) (subst (λ x. P x b o) ea (subst (λ y. P p y o) eb here)))
      | inr ne ↦ rw (get_or-set_other t (6 * p + q) (6 * a + b) o None ne) there
    ]

least_low : (d e o : ℤ) → o ≡ (if int_le d e then d else e) → pos 0 ≤ℤ (d +ℤ pos (2 ^ 40)) → pos 0 ≤ℤ (e +ℤ pos (2 ^ 40)) → pos 0 ≤ℤ (o +ℤ pos (2 ^ 40))
least_low d e o is h g = grind (arith, ints)

least_high : (d e o : ℤ) → o ≡ (if int_le d e then d else e) → d ≤ℤ pos (2 ^ 40) → e ≤ℤ pos (2 ^ 40) → o ≤ℤ pos (2 ^ 40)
least_high d e o is h g = grind (arith, ints)

near_tighter : (d : Option ℤ) (c o : ℤ) → Some o ≡ through d (Some c) (Some (pos 0)) → IsWithinIf (2 ^ 40) d → IsWithin (2 ^ 40) c → IsWithin (2 ^ 40) o
near_tighter None c o e nd nc = let is : o ≡ c +ℤ pos 0 = cc in record { low = omega (arith, ints); high = omega (arith, ints) }
near_tighter (Some d) c o e nd nc = let is : o ≡ (if int_le d (c +ℤ pos 0) then d else (c +ℤ pos 0)) = cc in record { low = low_of is; high = high_of is } where
  low_of : o ≡ (if int_le d (c +ℤ pos 0) then d else (c +ℤ pos 0)) → pos 0 ≤ℤ (o +ℤ pos (2 ^ 40))
  low_of is = least_low d (c +ℤ pos 0) o is (omega (arith, ints)) (omega (arith, ints))

  high_of : o ≡ (if int_le d (c +ℤ pos 0) then d else (c +ℤ pos 0)) → o ≤ℤ pos (2 ^ 40)
  high_of is = least_high d (c +ℤ pos 0) o is (omega (arith, ints)) (omega (arith, ints))

pub table_step : (vars : ℕ) (list : List Constraint) (i : ℕ) (t : List (Option ℤ)) (k : Constraint) (o : ℤ) → vars ≤ 6 → i < length list → at list i ≡ k → IsAllowed vars k → Some o ≡ through (cell t k.a k.b) (Some k.c) (Some (pos 0)) → IsTableOf vars list i t → IsTableOf vars list (i + 1) (set t (6 * k.a + k.b) (Some o))
table_step vars list i t k o few lt ek allowed is old = record {
  size = simp length-set old.size;
  near = record {
    cells = λ z z_lt. elim (same_or_not z (6 * k.a + k.b)) [
      | inl e ↦ subst (λ w. IsWithinIf (2 ^ 40) (get_or (set t (6 * k.a + k.b) (Some o)) w None)) (sym e) (rw same (near_tighter (cell t k.a k.b) k.c o is (old.near.cells (6 * k.a + k.b) spot) allowed.near))
      | inr ne ↦ rw (get_or-set_other t (6 * k.a + k.b) z (Some o) None ne) (old.near.cells z z_lt)
    ];
  };
  asks = λ s solves. All-more (Keeps s) list i no_one lt (old.asks s (looser s solves)) (subst (λ h. Keeps s h) (sym ek) (kept s solves));
  only = λ s all. record {
    bounds = λ a b la lb.
        both_cells t a b k.a k.b (Some o) (λ x y c. Holds c (s x -ℤ s y)) old.size (omega arith) (omega arith) a6 b6
        (subst (λ c. Holds c (s k.a -ℤ s k.b)) (sym is) (through_holds (cell t k.a k.b) (Some k.c) (Some (pos 0)) (s k.a) (s k.b) (s k.b) ((old.only s all).bounds k.a k.b allowed.a_in allowed.b_in) (subst (λ h. Keeps s h) ek (All-get_or (Keeps s) list i no_one lt all)) (omega (arith, ints))))
        ((old.only s all).bounds a b la lb);
  };
  there = below_more (λ n. IsThere (cell (set t (6 * k.a + k.b) (Some o)) (at list n).a (at list n).b)) i (λ n n_lt. still ((at list n).a) ((at list n).b) (old.there n n_lt)) (subst (λ h. IsThere (cell (set t (6 * k.a + k.b) (Some o)) h.a h.b)) (sym ek) (rw same tt));
} where
  a6 : k.a < 6
  a6 = let lt_vars : k.a < vars = allowed.a_in in omega arith

  b6 : k.b < 6
  b6 = let lt_vars : k.b < vars = allowed.b_in in omega arith

  spot : 6 * k.a + k.b < 36
  spot = let la : k.a < 6 = a6 in let lb : k.b < 6 = b6 in omega arith

  same : get_or (set t (6 * k.a + k.b) (Some o)) (6 * k.a + k.b) None ≡ Some o
  same = let lt36 : 6 * k.a + k.b < 36 = spot in let size : length t ≡ 36 = old.size in let room : 6 * k.a + k.b < length t = omega arith in get_or-set_same t (6 * k.a + k.b) (Some o) None room

  still : (a b : ℕ) → IsThere (cell t a b) → IsThere (cell (set t (6 * k.a + k.b) (Some o)) a b)
  still a b h = elim (same_or_not (6 * a + b) (6 * k.a + k.b)) [
    | inl e ↦ subst (λ w. IsThere (get_or (set t (6 * k.a + k.b) (Some o)) w None)) (sym e) (rw same tt)
    | inr ne ↦ rw (get_or-set_other t (6 * k.a + k.b) (6 * a + b) (Some o) None ne) h
  ]

  here : (s : ℕ → ℤ) → Solves (set t (6 * k.a + k.b) (Some o)) vars s → Holds (through (cell t k.a k.b) (Some k.c) (Some (pos 0))) (s k.a -ℤ s k.b)
  here s solves = subst (λ c. Holds c (s k.a -ℤ s k.b)) (same ∙ is) (solves.bounds k.a k.b allowed.a_in allowed.b_in)

  kept : (s : ℕ → ℤ) → Solves (set t (6 * k.a + k.b) (Some o)) vars s → Keeps s k
  kept s solves = let le : (s k.a -ℤ s k.b) ≤ℤ (k.c +ℤ pos 0) = through_way (cell t k.a k.b) k.c (pos 0) (s k.a -ℤ s k.b) (here s solves) in omega (arith, ints)

  looser : (s : ℕ → ℤ) → Solves (set t (6 * k.a + k.b) (Some o)) vars s → Solves t vars s
  looser s solves = record {
    bounds = λ a b la lb. elim (same_or_not (6 * a + b) (6 * k.a + k.b)) [
      | inl e ↦
          let b_few : b < 6 = omega arith in
          let ka : k.a < 6 = a6 in
          let kb : k.b < 6 = b6 in
          let ea : k.a ≡ a = omega arith in
          let eb : k.b ≡ b = omega arith in
          subst (λ x. Holds (cell t x b) (s x -ℤ s b)) ea (subst (λ y. Holds (cell t k.a y) (s k.a -ℤ s y)) eb (through_direct (cell t k.a k.b) (Some k.c) (Some (pos 0)) (s k.a -ℤ s k.b) (here s solves)))
      | inr ne ↦ subst (λ c. Holds c (s a -ℤ s b)) (get_or-set_other t (6 * k.a + k.b) (6 * a + b) (Some o) None ne) (solves.bounds a b la lb)
    ];
  }

-- the empty table
abbrev free : Option ℤ
free = None

none_at : (n j : ℕ) → get_or (replicate n free) j free ≡ free
none_at zero j = refl
none_at (suc n) zero = refl
none_at (suc n) (suc j) = none_at n j

pub table_first : (vars : ℕ) (list : List Constraint) → IsTableOf vars list 0 (replicate 36 None)
table_first vars list = record {
  size = refl;
  near = record { cells = λ j lt. subst (λ o. IsWithinIf (2 ^ 40) o) (sym (none_at 36 j)) tt };
  asks = λ s solves. All-nil (Keeps s);
  only = λ s all. record { bounds = λ a b la lb. subst (λ o. Holds o (s a -ℤ s b)) (sym (none_at 36 (6 * a + b))) tt };
  there = λ i lt. absurd (omega arith);
}

both : (p a q b : ℕ) → (nat_eq p a && nat_eq q b) ≡ true → (p ≡ a) × (q ≡ b)
both p a q b h = (grind arith, grind arith)

take_all : (list : List Constraint) → take (length list) list ≡ list
take_all [] = refl
take_all (k ∷ ks) = ap (λ l. k ∷ l) (take_all ks)

-- the constraint on a pair has a place
found : (a b : ℕ) (list : List Constraint) → has_pair a b list ≡ true → (i : ℕ) × (i < length list) × ((at list i).a ≡ a) × ((at list i).b ≡ b)
found a b [] h = absurd (cc)
found a b (k ∷ ks) h = cases (is_on a b k) refl (λ r. found a b ks r) where
  cases : (t : Bool) → is_on a b k ≡ t → (has_pair a b ks ≡ true → (i : ℕ) × (i < length ks) × ((at ks i).a ≡ a) × ((at ks i).b ≡ b)) → (i : ℕ) × (i < length (k ∷ ks)) × ((at (k ∷ ks) i).a ≡ a) × ((at (k ∷ ks) i).b ≡ b)
  cases true e more = let on : (k.a ≡ a) × (k.b ≡ b) = both k.a a k.b b e in (0, omega arith, on.0, on.1)
  cases false e more =
      let rest : has_pair a b ks ≡ true = rw e at h in
      let f : (i : ℕ) × (i < length ks) × ((at ks i).a ≡ a) × ((at ks i).b ≡ b) = more rest in
      let lt : f.0 < length ks = f.1 in
      (suc f.0, omega arith, f.2, f.3)

pub lows_found : (d : Differences) (t : List (Option ℤ)) → IsTableOf d.vars d.list (length d.list) t → IsBoundedBelow d → HasLows t d.vars
lows_found d t table low = record {
  lows = λ v some lt.
      let f : (i : ℕ) × (i < length d.list) × ((at d.list i).a ≡ 0) × ((at d.list i).b ≡ v) = found 0 v d.list (low.lows v some lt) in
      subst (λ a. IsThere (cell t a v)) f.2 (subst (λ b. IsThere (cell t (at d.list f.0).a b)) f.3 (table.there f.0 f.1));
}

pub unsolvable : (d : Differences) (t : List (Option ℤ)) → IsTableOf d.vars d.list (length d.list) t → HasNoSolution t d.vars → IsUnsolvable d
unsolvable d t table fails = record { none = λ s keeps. fails.none s keeps.zero_first (table.only s keeps.all) }

pub least_solution : (d : Differences) (t : List (Option ℤ)) (xs : List ℤ) → IsTableOf d.vars d.list (length d.list) t → IsLeast t d.vars xs → IsLeastSolution d xs
least_solution d t xs table found = record {
  satisfies = record { zero_first = found.zero_first; all = subst (λ l. All (Keeps (number xs)) l) (take_all d.list) (table.asks (number xs) found.solves) };
  least = λ s keeps v lt. found.least s keeps.zero_first (table.only s keeps.all) v lt;
  rest = found.rest;
}

pub answered : (d : Differences) (t : List (Option ℤ)) (r : Option (List ℤ)) → IsTableOf d.vars d.list (length d.list) t → MatchOption r (HasNoSolution t d.vars) (λ x. IsLeast t d.vars x) → MatchOption r (IsUnsolvable d) (λ x. IsLeastSolution d x)
answered d t None table fails = unsolvable d t table fails
answered d t (Some xs) table found = least_solution d t xs table found

-- the step as the code has it
pub table_step_at : (vars : ℕ) (list : List Constraint) (i : ℕ) (t : List (Option ℤ)) (p q : ℕ) (o : ℤ) → vars ≤ 6 → i < length list → All (IsAllowed vars) list → p ≡ (at list i).a → q ≡ (at list i).b → Some o ≡ through (cell t p q) (Some (at list i).c) (Some (pos 0)) → IsTableOf vars list i t → IsTableOf vars list (i + 1) (set t (6 * p + q) (Some o))
table_step_at vars list i t p q o few lt allowed ep eq is old =
    let k = at list i in
    let is_there : Some o ≡ through (cell t k.a k.b) (Some k.c) (Some (pos 0)) = subst (λ x. Some o ≡ through (cell t x k.b) (Some k.c) (Some (pos 0))) ep (subst (λ y. Some o ≡ through (cell t p y) (Some k.c) (Some (pos 0))) eq is) in
    subst (λ x. IsTableOf vars list (i + 1) (set t (6 * x + q) (Some o))) (sym ep) (subst (λ y. IsTableOf vars list (i + 1) (set t (6 * k.a + y) (Some o))) (sym eq) (table_step vars list i t k o few lt refl (All-get_or (IsAllowed vars) list i no_one lt allowed) is_there old))
