-- A rank's number and its seat: each gives the other.
use Rattle.std.proofs.Common.{◌≡◌, ◌<◌, ℕ, zero, suc, ◌==◌, ℤ, pos, ◌+ℤ◌, ◌-ℤ◌, int_le, int_lt, nat_eq, nat_lt, Bool, true, false, ◌||◌, ◌&&◌, if◌then◌else◌, List, [], ◌∷◌, ◌++◌, map, length, refl, ap, ap₂, sym, ◌∙◌, subst, inl, inr, arith}
use Rattle.std.specs.Ordering.{int_eq}
use Rattle.std.proofs.lemmas.Bool.{cases_Bool, false≢true}
use Rattle.std.proofs.lemmas.Bool.Decides.{nat_tests}
use Rattle.std.proofs.lemmas.Int.{ints}
use Rattle.pb_affine.specs.Values.{value, count_of, count_from}
use Rattle.pb_core_language.specs.declared.protocol.CoreRole.{CoreRole}
use Rattle.pb_core_language.specs.Ranks.{Seat, seat_eq, seats_from, seats, number_in, seat_at}
use Rattle.pb_core_language.specs.Rules.{is_seat}
use Rattle.pb_core_flat.specs.Laws.{EndIsAt, SeatOfRank, RankOfSeat}

abbrev seat_of : ℕ → ℤ → Seat
seat_of k x = record { role = k; index = x }

seat_same : (a b : Seat) → seat_eq a b ≡ true → a ≡ b
seat_same a b h = ap₂ seat_of (grind (arith, ints, nat_tests)) (grind (arith, ints, nat_tests))

seat_self : (a : Seat) → seat_eq a a ≡ true
seat_self a = grind (arith, ints, nat_tests)

-- tests of three seats
through : (a b c : Seat) → seat_eq b c ≡ true → seat_eq a c ≡ seat_eq a b
through a b c h = ap (seat_eq a) (sym (seat_same b c h))

not_both : (a b c : Seat) → seat_eq b c ≡ false → seat_eq a c ≡ true → seat_eq a b ≡ false
not_both a b c h k = grind (arith, ints, nat_tests)

suc_same : (x y : ℕ) → (suc x == suc y) ≡ (x == y)
suc_same x y = grind (arith, nat_tests)

more_zero : (x : ℕ) → (suc x == 0) ≡ false
more_zero x = grind (arith, nat_tests)

zero_more : (y : ℕ) → (0 == suc y) ≡ false
zero_more y = grind (arith, nat_tests)

number_step : (ac bc ab : Bool) (x y : ℕ) → (bc ≡ true → ac ≡ ab) → (bc ≡ false → ac ≡ true → ab ≡ false) → (bc ≡ false → (x == y) ≡ ab) → ((if ac then 0 else suc x) == (if bc then 0 else suc y)) ≡ ab
number_step true true ab x y f g h = f refl
number_step false true ab x y f g h = more_zero x ∙ f refl
number_step true false ab x y f g h = zero_more y ∙ sym (g refl refl)
number_step false false ab x y f g h = suc_same x y ∙ h refl

rest_has : (p q : Bool) → p || q ≡ true → p ≡ false → q ≡ true
rest_has p q h e = grind arith

-- two seats have one number exactly where they are one seat, if the second is in the list
pub same_number : (list : List Seat) (a b : Seat) → is_seat b list ≡ true → (number_in a list == number_in b list) ≡ seat_eq a b
same_number [] a b h = absurd (false≢true h)
same_number (c ∷ cs) a b h =
    number_step (seat_eq a c) (seat_eq b c) (seat_eq a b) (number_in a cs) (number_in b cs) (through a b c) (not_both a b c)
    (λ e. same_number cs a b (rest_has (seat_eq b c) (is_seat b cs) h e))

pub end_is_at : EndIsAt
end_is_at roles n i e role x h = same_number (seats roles n) (seat_of e.role (value e.at n i)) (seat_of role x) h

at_step : (t : Bool) (k : ℕ) (a b : Seat) (bs : List Seat) → (t ≡ true → b ≡ a) → (t ≡ false → seat_at k bs ≡ a) → seat_at (if t then 0 else suc k) (b ∷ bs) ≡ a
at_step true k a b bs f g = f refl
at_step false k a b bs f g = g refl

pub seat_of_number : (list : List Seat) (a : Seat) → is_seat a list ≡ true → seat_at (number_in a list) list ≡ a
seat_of_number [] a h = absurd (false≢true h)
seat_of_number (b ∷ bs) a h =
    at_step (seat_eq a b) (number_in a bs) a b bs (λ e. sym (seat_same a b e)) (λ e. seat_of_number bs a (rest_has (seat_eq a b) (is_seat a bs) h e))

below_step : (t s : Bool) (k m : ℕ) → s ≡ nat_lt k m → t || s ≡ nat_lt (if t then 0 else suc k) (suc m)
below_step true s k m e = grind (arith, nat_tests)
below_step false s k m e = grind (arith, nat_tests)

-- a seat is in the list exactly where its number is below the list's length
pub is_below : (list : List Seat) (a : Seat) → is_seat a list ≡ nat_lt (number_in a list) (length list)
is_below [] a = refl
is_below (b ∷ bs) a = below_step (seat_eq a b) (is_seat a bs) (number_in a bs) (length bs) (is_below bs a)

lt_true : (a b : ℕ) → nat_lt a b ≡ true → a < b
lt_true a b h = grind (arith, nat_tests)

pub seat_of_rank : SeatOfRank
seat_of_rank roles n a h = (lt_true (number_in a (seats roles n)) _ (sym (is_below (seats roles n) a) ∙ h), seat_of_number (seats roles n) a h)

-- ---- no seat is there twice

abbrev Apart : List Seat → Type 0
Apart [] = Unit {0}
Apart (a ∷ list) = (is_seat a list ≡ false) × Apart list

pub is_seat_at : (list : List Seat) (r : ℕ) → r < length list → is_seat (seat_at r list) list ≡ true
is_seat_at [] r h = absurd (omega arith)
is_seat_at (a ∷ list) zero h = ap (λ t. t || is_seat a list) (seat_self a)
is_seat_at (a ∷ list) (suc r) h = or_right (seat_eq (seat_at r list) a) (is_seat_at list r (omega arith)) where
  or_right : (p : Bool) {q : Bool} → q ≡ true → p || q ≡ true
  or_right true e = refl
  or_right false e = e

zero_if : (t : Bool) (k : ℕ) → t ≡ true → (if t then 0 else suc k) ≡ 0
zero_if t k e = ap (λ u. if u then 0 else suc k) e

more_if : (t : Bool) (k : ℕ) → t ≡ false → (if t then 0 else suc k) ≡ suc k
more_if t k e = ap (λ u. if u then 0 else suc k) e

other_seat : (a b : Seat) (list : List Seat) → is_seat b list ≡ true → is_seat a list ≡ false → seat_eq b a ≡ false
other_seat a b list h k =
    elim (cases_Bool (seat_eq b a)) [ inl e ↦ absurd (false≢true (sym k ∙ subst (λ c. is_seat c list ≡ true) (seat_same b a e) h)) | inr e ↦ e ]

number_of_seat : (list : List Seat) (r : ℕ) → Apart list → r < length list → number_in (seat_at r list) list ≡ r
number_of_seat [] r h lt = absurd (omega arith)
number_of_seat (a ∷ list) zero h lt = zero_if (seat_eq a a) (number_in a list) (seat_self a)
number_of_seat (a ∷ list) (suc r) h lt =
    more_if (seat_eq (seat_at r list) a) (number_in (seat_at r list) list) (other_seat a (seat_at r list) list (is_seat_at list r (omega arith)) h.0)
    ∙ ap suc (number_of_seat list r h.1 (omega arith))

none_more : (role k : ℕ) (low x : ℤ) (s : Bool) → s ≡ (nat_eq role k && (int_le low x && int_lt x (low +ℤ pos 0))) || s
none_more role k low x s = grind (arith, ints, nat_tests)

one_more : (role k c : ℕ) (low x : ℤ) (s : Bool) →
    (nat_eq role k && int_eq x low) || ((nat_eq role k && (int_le (low +ℤ pos 1) x && int_lt x (low +ℤ pos 1 +ℤ pos c))) || s) ≡ (nat_eq role k && (int_le low x && int_lt x (low +ℤ pos (suc c)))) || s
one_more role k c low x s = grind (arith, ints, nat_tests)

seat_among : (k c : ℕ) (low : ℤ) (ys : List Seat) (role : ℕ) (x : ℤ) →
    is_seat (seat_of role x) (map (seat_of k) (count_from c low) ++ ys) ≡ (nat_eq role k && (int_le low x && int_lt x (low +ℤ pos c))) || is_seat (seat_of role x) ys
seat_among k zero low ys role x = none_more role k low x (is_seat (seat_of role x) ys)
seat_among k (suc c) low ys role x =
    ap (λ t. (nat_eq role k && int_eq x low) || t) (seat_among k c (low +ℤ pos 1) ys role x) ∙ one_more role k c low x (is_seat (seat_of role x) ys)

counted : (low high x : ℤ) → int_le low x && int_lt x (low +ℤ pos (count_of (high +ℤ pos 1 -ℤ low))) ≡ int_le low x && int_le x high
counted low high x = grind (arith, ints)

-- the seats of one more role
pub seat_in_role : (k : ℕ) (r : CoreRole) (rs : List CoreRole) (n : ℤ) (role : ℕ) (x : ℤ) →
    is_seat (seat_of role x) (seats_from k (r ∷ rs) n)
    ≡ (nat_eq role k && (int_le (value r.low n (pos 0)) x && int_le x (value r.high n (pos 0)))) || is_seat (seat_of role x) (seats_from (suc k) rs n)
seat_in_role k r rs n role x =
    seat_among k (count_of (value r.high n (pos 0) +ℤ pos 1 -ℤ value r.low n (pos 0))) (value r.low n (pos 0)) (seats_from (suc k) rs n) role x
    ∙ ap (λ t. (nat_eq role k && t) || is_seat (seat_of role x) (seats_from (suc k) rs n)) (counted (value r.low n (pos 0)) (value r.high n (pos 0)) x)

none_of : (role k j : ℕ) (b s : Bool) → role < k → s ≡ false → (nat_eq role k && b) || s ≡ false
none_of role k j b s h e = grind (arith, nat_tests)

-- no seat is of an earlier role
not_earlier : (k : ℕ) (rs : List CoreRole) (n : ℤ) (role : ℕ) (x : ℤ) → role < k → is_seat (seat_of role x) (seats_from k rs n) ≡ false
not_earlier k [] n role x h = refl
not_earlier k (r ∷ rs) n role x h = seat_in_role k r rs n role x ∙ none_of role k k _ _ h (not_earlier (suc k) rs n role x (omega arith))

not_again : (k c : ℕ) (low : ℤ) (s : Bool) → s ≡ false → (nat_eq k k && (int_le (low +ℤ pos 1) low && int_lt low (low +ℤ pos 1 +ℤ pos c))) || s ≡ false
not_again k c low s e = grind (arith, ints, nat_tests)

apart_more : (k c : ℕ) (low : ℤ) (ys : List Seat) → ((x : ℤ) → is_seat (seat_of k x) ys ≡ false) → Apart ys → Apart (map (seat_of k) (count_from c low) ++ ys)
apart_more k zero low ys h a = a
apart_more k (suc c) low ys h a =
    (seat_among k c (low +ℤ pos 1) ys k low ∙ not_again k c low (is_seat (seat_of k low) ys) (h low), apart_more k c (low +ℤ pos 1) ys h a)

apart : (k : ℕ) (rs : List CoreRole) (n : ℤ) → Apart (seats_from k rs n)
apart k [] n = tt
apart k (r ∷ rs) n =
    apart_more k (count_of (value r.high n (pos 0) +ℤ pos 1 -ℤ value r.low n (pos 0))) (value r.low n (pos 0)) (seats_from (suc k) rs n)
    (λ x. not_earlier (suc k) rs n k x (omega arith)) (apart (suc k) rs n)

pub rank_of_seat : RankOfSeat
rank_of_seat roles n r h = (is_seat_at (seats roles n) r h, number_of_seat (seats roles n) r (apart 0 roles n) h)
