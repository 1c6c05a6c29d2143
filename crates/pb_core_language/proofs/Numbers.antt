-- The number of a rank is its index and its role's place.
use Rattle.std.proofs.Common.{◌≡◌, ◌≢◌, ℕ, zero, suc, ◌+◌, ◌<◌, ℤ, pos, ◌+ℤ◌, ◌-ℤ◌, ◌*ℤ◌, ◌≤ℤ◌, ◌<ℤ◌, true, false, nat_eq, List, [], ◌∷◌, ◌++◌, map, length, refl, ap, ap₂, ◌∙◌, arith, add-zero}
use Rattle.std.proofs.lemmas.Int.{ints}
use Rattle.std.proofs.lemmas.List.{length-append, length-map}
use lib.IntN.{+ℤ_one, suc_ℤ-*ℤ, +ℤ_idr, zero-*ℤ, -ℤ_one, pred_ℤ-*ℤ}
use Rattle.pb_affine.specs.declared.lin.Base.{Base}
use Rattle.pb_affine.specs.declared.lin.Base.TheVariants.{Fixed, Param, Var}
use Rattle.pb_affine.specs.Values.{value, base_value, range, count_from, count_of}
use Rattle.pb_core_language.specs.declared.protocol.CoreRole.{CoreRole}
use Rattle.pb_core_language.specs.Ranks.{Seat, seats_from, number_in, seat_eq, Formula, at, factor, with_role, size_with, place_with}
use Rattle.pb_core_language.specs.Laws.{IsInRole, IsInhabited, AreInhabited, Numbered, Totalled}

plus_one_times : (a n : ℤ) → (a +ℤ pos 1) *ℤ n ≡ a *ℤ n +ℤ n
plus_one_times a n = ap (λ x. x *ℤ n) (+ℤ_one a) ∙ suc_ℤ-*ℤ a n

minus_one_times : (a n : ℤ) → (a -ℤ pos 1) *ℤ n ≡ a *ℤ n -ℤ n
minus_one_times a n = ap (λ x. x *ℤ n) (-ℤ_one a) ∙ pred_ℤ-*ℤ a n

plus_factor : (b : Base) (a n : ℤ) → (b ≢ Var) → (a +ℤ factor b) *ℤ n ≡ a *ℤ n +ℤ base_value b n (pos 0)
plus_factor Fixed a n h = omega (arith, ints, ap (λ x. x *ℤ n) (+ℤ_idr a))
plus_factor Param a n h = plus_one_times a n
plus_factor Var a n h = absurd (h refl)

minus_factor : (b : Base) (a n : ℤ) → (b ≢ Var) → (a -ℤ factor b) *ℤ n ≡ a *ℤ n -ℤ base_value b n (pos 0)
minus_factor Fixed a n h = omega (arith, ints, ap (λ x. x *ℤ n) (+ℤ_idr a))
minus_factor Param a n h = minus_one_times a n
minus_factor Var a n h = absurd (h refl)

abbrev seat : ℕ → ℤ → Seat
seat k x = record { role = k; index = x }

length-count_from : (c : ℕ) (low : ℤ) → length (count_from c low) ≡ c
length-count_from zero low = refl
length-count_from (suc c) low = ap suc (length-count_from c (low +ℤ pos 1))

-- a seat of another role is passed
other_role : (j k : ℕ) (x : ℤ) (xs : List ℤ) (ys : List Seat) → nat_eq k j ≡ false → number_in (seat k x) (map (seat j) xs ++ ys) ≡ length xs + number_in (seat k x) ys
other_role j k x [] ys h = omega arith
other_role j k x (y ∷ xs) ys h = rw h (omega (arith, other_role j k x xs ys h))

same_seat : (k : ℕ) (x y : ℤ) → x ≡ y → seat_eq (seat k x) (seat k y) ≡ true
same_seat k x y e = grind (arith, ints)

other_index : (k : ℕ) (x y : ℤ) → y <ℤ x → seat_eq (seat k x) (seat k y) ≡ false
other_index k x y h = grind (arith, ints)

other_number : (k j : ℕ) (x y : ℤ) → k ≢ j → seat_eq (seat k x) (seat j y) ≡ false
other_number k j x y h = grind (arith, ints)

-- the place among a role's seats
in_role : (k c d : ℕ) (low x : ℤ) (ys : List Seat) → d < c → x ≡ low +ℤ pos d → number_in (seat k x) (map (seat k) (count_from c low) ++ ys) ≡ d
in_role k zero d low x ys h e = absurd (omega arith)
in_role k (suc c) zero low x ys h e = rw (same_seat k x low (omega (arith, ints))) refl
in_role k (suc c) (suc d) low x ys h e =
    rw (other_index k x low (omega (arith, ints))) (ap suc (in_role k c d (low +ℤ pos 1) x ys (omega arith) (omega (arith, ints))))

next_first : (r : CoreRole) (n : ℤ) (first : Formula) → IsInhabited r n →
    at (with_role first r) n
    ≡ at first n +ℤ (value r.high n (pos 0) -ℤ value r.low n (pos 0) +ℤ pos 1)
next_first r n first fine =
    omega (arith, ints, minus_factor r.low.base (first.a +ℤ factor r.high.base) n fine.low, plus_factor r.high.base first.a n fine.high)

count_of_is : (a : ℤ) → pos 0 ≤ℤ a → pos (count_of a) ≡ a
count_of_is a h = grind (arith, ints)

not_same : (j k : ℕ) → nat_eq (j + suc k) j ≡ false
not_same j k = grind arith

-- the number of a rank, where the first role has number j and its first rank the number `first`
number_from : (rs : List CoreRole) (j k : ℕ) (first : Formula) (n x : ℤ) → AreInhabited rs n → IsInRole k rs n x →
    pos (number_in (seat (j + k) x) (seats_from j rs n)) +ℤ at first n ≡ x +ℤ at (place_with first k rs) n
number_from [] j k first n x fine within = absurd within
number_from (r ∷ rs) j zero first n x fine within =
    let low = value r.low n (pos 0) in let high = value r.high n (pos 0) in
    let c : pos (count_of (high +ℤ pos 1 -ℤ low)) ≡ high +ℤ pos 1 -ℤ low = count_of_is _ (omega (arith, ints, fine.0.some)) in
    let d : pos (count_of (x -ℤ low)) ≡ x -ℤ low = count_of_is _ (omega (arith, ints, within.0)) in
    let e : number_in (seat (j + 0) x) (seats_from j (r ∷ rs) n) ≡ count_of (x -ℤ low) =
    rw add-zero (in_role j (count_of (high +ℤ pos 1 -ℤ low)) (count_of (x -ℤ low)) low x (seats_from (suc j) rs n) (omega (arith, ints, c, d, within.1)) (omega (arith, ints, d))) in
    rw e (omega (arith, ints, d, minus_factor r.low.base first.a n fine.0.low))
number_from (r ∷ rs) j (suc k) first n x fine within =
    let low = value r.low n (pos 0) in let high = value r.high n (pos 0) in
    let c : pos (count_of (high +ℤ pos 1 -ℤ low)) ≡ high +ℤ pos 1 -ℤ low = count_of_is _ (omega (arith, ints, fine.0.some)) in
    let s : j + suc k ≡ suc j + k = omega arith in
    let first' : Formula = with_role first r in
    let ih : pos (number_in (seat (suc j + k) x) (seats_from (suc j) rs n)) +ℤ at first' n ≡ x +ℤ at (place_with first' k rs) n = number_from rs (suc j) k first' n x fine.1 within in
    let o = other_role j (j + suc k) x (range low high) (seats_from (suc j) rs n) (not_same j k) in
    let e : number_in (seat (j + suc k) x) (seats_from j (r ∷ rs) n) ≡ count_of (high +ℤ pos 1 -ℤ low) + number_in (seat (suc j + k) x) (seats_from (suc j) rs n) =
    o ∙ ap₂ (λ a b. a + number_in (seat b x) (seats_from (suc j) rs n)) (length-count_from _ low) s in
    rw e (omega (arith, ints, c, ih, next_first r n first fine.0))

-- the number of a rank is its index and its role's place
pub number_is : Numbered
number_is roles k n x fine within =
    let e : 0 + k ≡ k = omega arith in
    let h = number_from roles 0 k (record { a = pos 0; b = pos 0 }) n x fine within in
    omega (arith, ints, rw e at h, zero-*ℤ n)

-- the total, where the roles before these have f ranks
total_with : (rs : List CoreRole) (j : ℕ) (f : Formula) (n : ℤ) → AreInhabited rs n → pos (length (seats_from j rs n)) +ℤ at f n ≡ at (size_with f rs) n
total_with [] j f n h = omega (arith, ints)
total_with (r ∷ rs) j f n h =
    let low = value r.low n (pos 0) in let high = value r.high n (pos 0) in
    let c : pos (count_of (high +ℤ pos 1 -ℤ low)) ≡ high +ℤ pos 1 -ℤ low = count_of_is _ (omega (arith, ints, h.0.some)) in
    let l : length (seats_from j (r ∷ rs) n) ≡ count_of (high +ℤ pos 1 -ℤ low) + length (seats_from (suc j) rs n) =
    length-append (map (seat j) (range low high)) (seats_from (suc j) rs n) ∙ ap (λ k. k + length (seats_from (suc j) rs n)) (length-map (range low high) (seat j) ∙ length-count_from _ low) in
    rw l (omega (arith, ints, c, total_with rs (suc j) (with_role f r) n h.1, next_first r n f h.0))

pub total_is : Totalled
total_is roles n h = omega (arith, ints, total_with roles 0 (record { a = pos 0; b = pos 0 }) n h, zero-*ℤ n)
