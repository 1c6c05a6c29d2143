-- The numbers of ranks, from the sums over the roles.
use Rattle.std.proofs.Common.{◌≡◌, ◌≢◌, ℕ, zero, suc, ◌+◌, ◌-◌, ◌<◌, ◌≤◌, ℤ, pos, ◌+ℤ◌, ◌-ℤ◌, ◌*ℤ◌, ◌≤ℤ◌, ◌<ℤ◌, List, [], ◌∷◌, ◌++◌, map, length, get_or, refl, ap, sym, ◌∙◌, arith, subst, ◌⊎◌, inl, inr}
use Rattle.std.proofs.lemmas.Int.{ints}
use Rattle.std.proofs.lemmas.List.{length-append, length-map}
use Rattle.std.proofs.lemmas.Bool.{cases_lt}
use lib.IntN.{+ℤ_one, suc_ℤ-*ℤ, +ℤ_idr, -ℤ_one, pred_ℤ-*ℤ}
use Rattle.pb_affine.specs.declared.lin.Base.{Base}
use Rattle.pb_affine.specs.declared.lin.Base.TheVariants.{Fixed, Param, Var}
use Rattle.pb_affine.specs.Values.{value, base_value, count_from, count_of, range}
use Rattle.pb_local.specs.declared.tables.Role.{Role}
use Rattle.pb_local.specs.Ranks.{Sum, at, factor, no_ranks, with_role, without_low, size_with, bases_with, places_with, Seat, seats_from, seat_at}

-- at N = n the role has an index, and its ends have no variable
pub record IsFine (r : Role) (n : ℤ) : Type 0 where
  pub some : value r.low n (pos 0) ≤ℤ value r.high n (pos 0)
  pub low : r.low.base ≢ Var
  pub high : r.high.base ≢ Var

abbrev pub AllFine : List Role → ℤ → Type 0
AllFine [] n = Unit {0}
AllFine (r ∷ rs) n = IsFine r n × AllFine rs n

abbrev pub sum_at : List Sum → ℕ → Sum
sum_at fs k = get_or fs k no_ranks

plus_one_times : (a n : ℤ) → (a +ℤ pos 1) *ℤ n ≡ a *ℤ n +ℤ n
plus_one_times a n = ap (λ x. x *ℤ n) (+ℤ_one a) ∙ suc_ℤ-*ℤ a n

minus_one_times : (a n : ℤ) → (a -ℤ pos 1) *ℤ n ≡ a *ℤ n -ℤ n
minus_one_times a n = ap (λ x. x *ℤ n) (-ℤ_one a) ∙ pred_ℤ-*ℤ a n

plus_factor : (b : Base) (a n : ℤ) → (b ≢ Var) → (a +ℤ factor b) *ℤ n ≡ a *ℤ n +ℤ base_value b n (pos 0)
plus_factor Fixed a n h = omega (arith, ints, ap (λ x. x *ℤ n) (+ℤ_idr a))
plus_factor Param a n h = plus_one_times a n
plus_factor Var a n h = absurd (h refl)

minus_factor : (b : Base) (a n : ℤ) → (b ≢ Var) → (a -ℤ factor b) *ℤ n ≡ a *ℤ n -ℤ base_value b n (pos 0)
minus_factor Fixed a n h = omega (arith, ints, ap (λ x. x *ℤ n) (+ℤ_idr a))
minus_factor Param a n h = minus_one_times a n
minus_factor Var a n h = absurd (h refl)

count_of_is : (a : ℤ) → pos 0 ≤ℤ a → pos (count_of a) ≡ a
count_of_is a h = grind (arith, ints)

length-count_from : (c : ℕ) (low : ℤ) → length (count_from c low) ≡ c
length-count_from zero low = refl
length-count_from (suc c) low = ap suc (length-count_from c (low +ℤ pos 1))

-- how many ranks a role has
abbrev count : Role → ℤ → ℕ
count r n = count_of (value r.high n (pos 0) +ℤ pos 1 -ℤ value r.low n (pos 0))

count_is : (r : Role) (n : ℤ) → IsFine r n → pos (count r n) ≡ value r.high n (pos 0) +ℤ pos 1 -ℤ value r.low n (pos 0)
count_is r n fine = count_of_is _ (omega (arith, ints, fine.some))

next_first : (r : Role) (n : ℤ) (f : Sum) → IsFine r n → at (with_role f r) n ≡ at f n +ℤ pos (count r n)
next_first r n f fine =
    omega (arith, ints, count_is r n fine, minus_factor r.low.base (f.a +ℤ factor r.high.base) n fine.low, plus_factor r.high.base f.a n fine.high)

place_is : (r : Role) (n : ℤ) (f : Sum) → IsFine r n → at (without_low f r) n ≡ at f n -ℤ value r.low n (pos 0)
place_is r n f fine = omega (arith, ints, minus_factor r.low.base f.a n fine.low)

abbrev seat : ℕ → ℤ → Seat
seat k x = record { role = k; index = x }

length-seats : (r : Role) (rs : List Role) (j : ℕ) (n : ℤ) → length (seats_from j (r ∷ rs) n) ≡ count r n + length (seats_from (suc j) rs n)
length-seats r rs j n =
    length-append (map (seat j) (range (value r.low n (pos 0)) (value r.high n (pos 0)))) (seats_from (suc j) rs n)
    ∙ ap (λ k. k + length (seats_from (suc j) rs n)) (length-map (range (value r.low n (pos 0)) (value r.high n (pos 0))) (seat j) ∙ length-count_from (count r n) (value r.low n (pos 0)))

-- the sum over the roles is the number of ranks
pub size_is : (rs : List Role) (j : ℕ) (f : Sum) (n : ℤ) → AllFine rs n → at (size_with f rs) n ≡ at f n +ℤ pos (length (seats_from j rs n))
size_is [] j f n fine = omega (arith, ints)
size_is (r ∷ rs) j f n fine =
    omega (arith, ints, size_is rs (suc j) (with_role f r) n fine.1, next_first r n f fine.0, length-seats r rs j n)

-- the seats of a role, and those behind them
seat_here : (k c m : ℕ) (low : ℤ) (ys : List Seat) → m < c → seat_at m (map (seat k) (count_from c low) ++ ys) ≡ seat k (low +ℤ pos m)
seat_here k zero m low ys less = absurd (omega (arith, less))
seat_here k (suc c) zero low ys less = ap (seat k) (omega (arith, ints))
seat_here k (suc c) (suc m) low ys less = seat_here k c m (low +ℤ pos 1) ys (omega (arith, less)) ∙ ap (seat k) (omega (arith, ints))

seat_past : (k c m : ℕ) (low : ℤ) (ys : List Seat) → c ≤ m → seat_at m (map (seat k) (count_from c low) ++ ys) ≡ seat_at (m - c) ys
seat_past k zero m low ys most = ap (λ i. seat_at i ys) (omega arith)
seat_past k (suc c) zero low ys most = absurd (omega (arith, most))
seat_past k (suc c) (suc m) low ys most = seat_past k c m (low +ℤ pos 1) ys (omega (arith, most)) ∙ ap (λ i. seat_at i ys) (omega arith)

length-bases : (f : Sum) (rs : List Role) → length (bases_with f rs) ≡ length rs
length-bases f [] = refl
length-bases f (r ∷ rs) = ap suc (length-bases (with_role f r) rs)

-- no base is less than the first
base_least : (rs : List Role) (f : Sum) (n : ℤ) (i : ℕ) → AllFine rs n → i < length (bases_with f rs) → at f n ≤ℤ at (sum_at (bases_with f rs) i) n
base_least [] f n i fine less = absurd (omega (arith, less))
base_least (r ∷ rs) f n zero fine less = omega (arith, ints)
base_least (r ∷ rs) f n (suc i) fine less =
    omega (arith, ints, next_first r n f fine.0, base_least rs (with_role f r) n i fine.1 (omega (arith, less)))

-- the role and the index that the sums give to the rank with number r
pub record IsFound (j : ℕ) (bases places : List Sum) (n r : ℤ) (s : Seat) : Type 0 where
  pub k : ℕ
  pub role : s.role ≡ j + k
  pub there : k < length bases
  pub reached : at (sum_at bases k) n ≤ℤ r
  pub later : (i : ℕ) → k < i → i < length bases → r <ℤ at (sum_at bases i) n
  pub index : s.index ≡ r -ℤ at (sum_at places k) n

in_first : (r : Role) (rs : List Role) (j : ℕ) (f : Sum) (n : ℤ) (m : ℕ) → AllFine (r ∷ rs) n → m < count r n →
    IsFound j (bases_with f (r ∷ rs)) (places_with f (r ∷ rs)) n (at f n +ℤ pos m) (seat_at m (seats_from j (r ∷ rs) n))
in_first r rs j f n m fine less =
    let here : seat_at m (seats_from j (r ∷ rs) n) ≡ seat j (value r.low n (pos 0) +ℤ pos m) = seat_here j (count r n) m (value r.low n (pos 0)) (seats_from (suc j) rs n) less in
    let P : Seat → Type 0 = λ s. IsFound j (bases_with f (r ∷ rs)) (places_with f (r ∷ rs)) n (at f n +ℤ pos m) s in
    subst P (sym here) (record {
      k = 0;
      role = omega arith;
      there = omega arith;
      reached = omega (arith, ints);
      later = after;
      index = omega (arith, ints, place_is r n f fine.0);
    }) where
      after : (i : ℕ) → 0 < i → i < length (bases_with f (r ∷ rs)) → (at f n +ℤ pos m) <ℤ at (sum_at (bases_with f (r ∷ rs)) i) n
      after zero some within = absurd (omega (arith, some))
      after (suc i) some within =
          omega (arith, ints, less, next_first r n f fine.0, base_least rs (with_role f r) n i fine.1 (omega (arith, within)))

in_later : (r : Role) (rs : List Role) (j : ℕ) (f : Sum) (n : ℤ) (m : ℕ) → AllFine (r ∷ rs) n → count r n ≤ m →
    IsFound (suc j) (bases_with (with_role f r) rs) (places_with (with_role f r) rs) n (at (with_role f r) n +ℤ pos (m - count r n)) (seat_at (m - count r n) (seats_from (suc j) rs n)) →
    IsFound j (bases_with f (r ∷ rs)) (places_with f (r ∷ rs)) n (at f n +ℤ pos m) (seat_at m (seats_from j (r ∷ rs) n))
in_later r rs j f n m fine most rest =
    let past : seat_at m (seats_from j (r ∷ rs) n) ≡ seat_at (m - count r n) (seats_from (suc j) rs n) = seat_past j (count r n) m (value r.low n (pos 0)) (seats_from (suc j) rs n) most in
    let same : at (with_role f r) n +ℤ pos (m - count r n) ≡ at f n +ℤ pos m = omega (arith, ints, next_first r n f fine.0, most) in
    let P : Seat → Type 0 = λ s. IsFound j (bases_with f (r ∷ rs)) (places_with f (r ∷ rs)) n (at f n +ℤ pos m) s in
    subst P (sym past) (record {
      k = suc rest.k;
      role = omega (arith, rest.role);
      there = omega (arith, rest.there);
      reached = omega (arith, ints, rest.reached, same);
      later = after same;
      index = omega (arith, ints, rest.index, same);
    }) where
      after : at (with_role f r) n +ℤ pos (m - count r n) ≡ at f n +ℤ pos m → (i : ℕ) → suc rest.k < i → i < length (bases_with f (r ∷ rs)) → (at f n +ℤ pos m) <ℤ at (sum_at (bases_with f (r ∷ rs)) i) n
      after same zero above within = absurd (omega (arith, above))
      after same (suc i) above within = omega (arith, ints, same, rest.later i (omega (arith, above)) (omega (arith, within)))

-- each rank is found
pub found : (rs : List Role) (j : ℕ) (f : Sum) (n : ℤ) (m : ℕ) → AllFine rs n → m < length (seats_from j rs n) →
    IsFound j (bases_with f rs) (places_with f rs) n (at f n +ℤ pos m) (seat_at m (seats_from j rs n))
found [] j f n m fine less = absurd (omega (arith, less))
found (r ∷ rs) j f n m fine less =
    by_count (cases_lt m (count r n)) (found rs (suc j) (with_role f r) n (m - count r n) fine.1) where
      by_count : (m < count r n) ⊎ (count r n ≤ m) → (m - count r n < length (seats_from (suc j) rs n) → IsFound (suc j) (bases_with (with_role f r) rs) (places_with (with_role f r) rs) n (at (with_role f r) n +ℤ pos (m - count r n)) (seat_at (m - count r n) (seats_from (suc j) rs n))) →
          IsFound j (bases_with f (r ∷ rs)) (places_with f (r ∷ rs)) n (at f n +ℤ pos m) (seat_at m (seats_from j (r ∷ rs) n))
      by_count (inl here) rest = in_first r rs j f n m fine here
      by_count (inr past) rest = in_later r rs j f n m fine past (rest (omega (arith, less, past, length-seats r rs j n)))
