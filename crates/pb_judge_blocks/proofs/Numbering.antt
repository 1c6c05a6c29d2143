-- The number of a rank, role by role.
use Rattle.std.proofs.Common.{◌≡◌, ◌<◌, ◌≤◌, ◌⊎◌, inl, inr, ℕ, zero, suc, ◌+◌, ◌^◌, ℤ, pos, negsuc, ◌+ℤ◌, ◌-ℤ◌, ◌≤ℤ◌, ◌<ℤ◌, true, false, nat_eq, List, [], ◌∷◌, ◌++◌, map, length, drop, get_or, refl, sym, ap, ap₂, subst, ◌∙◌, arith, SFits, w64}
use Rattle.std.proofs.lemmas.Int.{ints}
use Rattle.std.proofs.lemmas.Bool.Decides.{nat_tests}
use Rattle.std.proofs.lemmas.List.{length-append, length-map, drop_all}
use Rattle.std.proofs.Math.Seq.{drop-cons}
use Rattle.pb_affine.specs.Values.{IsNear, value, range, count_from, count_of}
use Rattle.pb_core_language.specs.declared.protocol.CoreRole.{CoreRole}
use Rattle.pb_core_language.specs.Ranks.{Seat, seats, seats_from, seat_eq, number_in, total}
use Rattle.pb_judge_blocks.specs.Places.{IsTurn}

abbrev seat : ℕ → ℤ → Seat
seat k x = record { role = k; index = x }

length-count_from : (c : ℕ) (low : ℤ) → length (count_from c low) ≡ c
length-count_from zero low = refl
length-count_from (suc c) low = ap suc (length-count_from c (low +ℤ pos 1))

-- a seat of another role is passed
other_role : (j k : ℕ) (x : ℤ) (xs : List ℤ) (ys : List Seat) → nat_eq k j ≡ false → number_in (seat k x) (map (seat j) xs ++ ys) ≡ length xs + number_in (seat k x) ys
other_role j k x [] ys h = omega arith
other_role j k x (y ∷ xs) ys h = rw h (omega (arith, other_role j k x xs ys h))

same_seat : (k : ℕ) (x y : ℤ) → x ≡ y → seat_eq (seat k x) (seat k y) ≡ true
same_seat k x y e = grind (arith, ints)

index_above : (k : ℕ) (x y : ℤ) → y <ℤ x → seat_eq (seat k x) (seat k y) ≡ false
index_above k x y h = grind (arith, ints)

index_below : (k : ℕ) (x y : ℤ) → x <ℤ y → seat_eq (seat k x) (seat k y) ≡ false
index_below k x y h = grind (arith, ints)

-- the place among a role's seats
in_role : (k c d : ℕ) (low x : ℤ) (ys : List Seat) → d < c → x ≡ low +ℤ pos d → number_in (seat k x) (map (seat k) (count_from c low) ++ ys) ≡ d
in_role k zero d low x ys h e = absurd (omega arith)
in_role k (suc c) zero low x ys h e = rw (same_seat k x low (omega (arith, ints))) refl
in_role k (suc c) (suc d) low x ys h e =
    rw (index_above k x low (omega (arith, ints))) (ap suc (in_role k c d (low +ℤ pos 1) x ys (omega arith) (omega (arith, ints))))

below_role : (k c : ℕ) (low x : ℤ) (ys : List Seat) → x <ℤ low → number_in (seat k x) (map (seat k) (count_from c low) ++ ys) ≡ c + number_in (seat k x) ys
below_role k zero low x ys h = omega arith
below_role k (suc c) low x ys h =
    let ih = below_role k c (low +ℤ pos 1) x ys (omega (arith, ints)) in
    rw (index_below k x low h) (omega (arith, ih))

above_role : (k c : ℕ) (low x : ℤ) (ys : List Seat) → (low +ℤ pos c) ≤ℤ x → number_in (seat k x) (map (seat k) (count_from c low) ++ ys) ≡ c + number_in (seat k x) ys
above_role k zero low x ys h = omega arith
above_role k (suc c) low x ys h =
    let ih = above_role k c (low +ℤ pos 1) x ys (omega (arith, ints)) in
    rw (index_above k x low (omega (arith, ints))) (omega (arith, ih))

count_of_is : (a : ℤ) → pos 0 ≤ℤ a → pos (count_of a) ≡ a
count_of_is a h = grind (arith, ints)

counted : (n : ℕ) (a : ℤ) → suc n ≡ count_of a → pos (suc n) ≡ a
counted n (pos m) e = ap pos e
counted n (negsuc m) e = absurd (omega (arith, e))

above_counted : (k c : ℕ) (low high x : ℤ) (ys : List Seat) → c ≡ count_of (high +ℤ pos 1 -ℤ low) → high <ℤ x → number_in (seat k x) (map (seat k) (count_from c low) ++ ys) ≡ c + number_in (seat k x) ys
above_counted k zero low high x ys e h = omega arith
above_counted k (suc c) low high x ys e h = let p = counted c (high +ℤ pos 1 -ℤ low) e in above_role k (suc c) low x ys (omega (arith, ints, p, h))

above_range : (k : ℕ) (low high x : ℤ) (ys : List Seat) → high <ℤ x → number_in (seat k x) (map (seat k) (range low high) ++ ys) ≡ count_of (high +ℤ pos 1 -ℤ low) + number_in (seat k x) ys
above_range k low high x ys h = above_counted k (count_of (high +ℤ pos 1 -ℤ low)) low high x ys refl h

-- the seats of one role
abbrev own : ℕ → CoreRole → ℤ → List Seat
own k r n = map (seat k) (range (value r.low n (pos 0)) (value r.high n (pos 0)))

own_many : (k : ℕ) (r : CoreRole) (n : ℤ) → length (own k r n) ≡ count_of (value r.high n (pos 0) +ℤ pos 1 -ℤ value r.low n (pos 0))
own_many k r n = length-map (range (value r.low n (pos 0)) (value r.high n (pos 0))) (seat k) ∙ length-count_from _ (value r.low n (pos 0))

-- ---- the search

-- the ranks of the roles before this one are passed, and there are few
pub record Passed (roles : List CoreRole) (n : ℤ) (s : Seat) (k before : ℕ) : Type 0 where
  pub number : before + number_in s (seats_from k (drop k roles) n) ≡ number_in s (seats roles n)
  pub many : before + length (seats_from k (drop k roles) n) ≡ total roles n

pub none_passed : (roles : List CoreRole) (n : ℤ) (s : Seat) → Passed roles n s 0 0
none_passed roles n s = record { number = omega arith; many = omega arith }

from_role : (roles : List CoreRole) (k : ℕ) (r : CoreRole) (n : ℤ) → k < length roles → r ≡ get_or roles k r → seats_from k (drop k roles) n ≡ own k r n ++ seats_from (k + 1) (drop (k + 1) roles) n
from_role roles k r n lt is =
    let e : suc k ≡ k + 1 = omega arith in
    ap (λ rs. seats_from k rs n) (drop-cons roles k r lt ∙ ap (λ x. x ∷ drop (suc k) roles) (sym is)) ∙ ap (λ j. own k r n ++ seats_from j (drop j roles) n) e

module _ (roles : List CoreRole) (n x : ℤ) (role k before : ℕ) (r : CoreRole) (lt : k < length roles) (is : r ≡ get_or roles k r) (p : Passed roles n (seat role x) k before) where
  abbrev low : ℤ
  low = value r.low n (pos 0)

  abbrev high : ℤ
  high = value r.high n (pos 0)

  abbrev many : ℕ
  many = count_of (high +ℤ pos 1 -ℤ low)

  abbrev rest : List Seat
  rest = seats_from (k + 1) (drop (k + 1) roles) n

  parts : length (seats_from k (drop k roles) n) ≡ many + length rest
  parts = ap length (from_role roles k r n lt is) ∙ length-append (own k r n) rest ∙ ap (λ c. c + length rest) (own_many k r n)

  pub few_more : total roles n ≤ 1024 → before + many < 2 ^ 32
  few_more few = let e = parts in let m = p.many in omega (arith, e, m, few)

  -- none of the role's seats is it
  pub one_passed : (k ≡ role → low ≤ℤ x → x ≤ℤ high → ⊥) → Passed roles n (seat role x) (k + 1) (before + many)
  one_passed apart =
      let e = parts in
      let m = p.many in
      record { number = number; many = omega (arith, e, m) }
    where
      eq_or : (a b : ℕ) → (a ≡ b) ⊎ (nat_eq b a ≡ false)
      eq_or a b = grind (arith, nat_tests)

      le_or : (a b : ℤ) → (a ≤ℤ b) ⊎ (b <ℤ a)
      le_or a b = grind (arith, ints)

      here : k ≡ role → (low ≤ℤ x) ⊎ (x <ℤ low) → (x ≤ℤ high) ⊎ (high <ℤ x) → number_in (seat role x) (own k r n ++ rest) ≡ many + number_in (seat role x) rest
      here same (inl a) (inl b) = absurd (apart same a b)
      here same (inr a) b = subst (λ j. number_in (seat j x) (own k r n ++ rest) ≡ many + number_in (seat j x) rest) same (below_role k many low x rest a)
      here same (inl a) (inr b) = subst (λ j. number_in (seat j x) (own k r n ++ rest) ≡ many + number_in (seat j x) rest) same (above_range k low high x rest b)

      passes : (k ≡ role) ⊎ (nat_eq role k ≡ false) → number_in (seat role x) (own k r n ++ rest) ≡ many + number_in (seat role x) rest
      passes (inl same) = here same (le_or low x) (le_or x high)
      passes (inr other) = other_role k role x (range low high) rest other ∙ ap (λ c. c + number_in (seat role x) rest) (length-count_from many low)

      number : (before + many) + number_in (seat role x) rest ≡ number_in (seat role x) (seats roles n)
      number =
          let f = ap (number_in (seat role x)) (from_role roles k r n lt is) ∙ passes (eq_or k role) in
          let m = p.number in omega (arith, f, m)

  -- it is among them
  found_number : k ≡ role → (low ≤ℤ x) → (x ≤ℤ high) → number_in (seat role x) (own k r n ++ rest) ≡ count_of (x -ℤ low)
  found_number same a b =
      let c : pos many ≡ high +ℤ pos 1 -ℤ low = count_of_is _ (omega (arith, ints, a, b)) in
      let d : pos (count_of (x -ℤ low)) ≡ x -ℤ low = count_of_is _ (omega (arith, ints, a)) in
      subst (λ j. number_in (seat j x) (own k r n ++ rest) ≡ count_of (x -ℤ low)) same (in_role k many (count_of (x -ℤ low)) low x rest (omega (arith, ints, c, d, b)) (omega (arith, ints, d)))

  pub found : k ≡ role → (low ≤ℤ x) → (x ≤ℤ high) → before + count_of (x -ℤ low) ≡ number_in (seat role x) (seats roles n)
  found same a b =
      let f = ap (number_in (seat role x)) (from_role roles k r n lt is) ∙ found_number same a b in
      let m = p.number in omega (arith, f, m)

  pub few_found : total roles n ≤ 1024 → (low ≤ℤ x) → (x ≤ℤ high) → before + count_of (x -ℤ low) < 2 ^ 32
  few_found few a b =
      let c : pos many ≡ high +ℤ pos 1 -ℤ low = count_of_is _ (omega (arith, ints, a, b)) in
      let d : pos (count_of (x -ℤ low)) ≡ x -ℤ low = count_of_is _ (omega (arith, ints, a)) in
      let m = few_more few in
      let l : count_of (x -ℤ low) ≤ many = omega (arith, ints, c, d, b) in
      omega (arith, m, l)

  -- the role is passed, by the numbers that were computed
  pub passes_role : (l h v : ℤ) (counted after : ℕ) → total roles n ≤ 1024 → l ≡ low → h ≡ high → v ≡ x → counted ≡ count_of (h +ℤ pos 1 -ℤ l) → (k ≡ role → l ≤ℤ v → v ≤ℤ h → ⊥) → (before + counted < 2 ^ 32 → after ≡ before + counted) →
      Passed roles n (seat role x) (k + 1) after
  passes_role l h v counted after few el eh ev ec apart sum =
      let c : counted ≡ many = ec ∙ ap₂ (λ a b. count_of (b +ℤ pos 1 -ℤ a)) el eh in
      let fits : before + counted < 2 ^ 32 = subst (λ m. before + m < 2 ^ 32) (sym c) (few_more few) in
      let next = one_passed (λ same a b. apart same (omega (arith, ints, a, el, ev)) (omega (arith, ints, b, eh, ev))) in
      subst (λ b. Passed roles n (seat role x) (k + 1) b) (sym (sum fits ∙ ap (λ m. before + m) c)) next

  -- the rank is one of the role's
  pub finds_role : (l h v : ℤ) (far after : ℕ) → total roles n ≤ 1024 → l ≡ low → h ≡ high → v ≡ x → k ≡ role → (l ≤ℤ v) → (v ≤ℤ h) → far ≡ count_of (v -ℤ l) → (before + far < 2 ^ 32 → after ≡ before + far) → after ≡ number_in (seat role x) (seats roles n)
  finds_role l h v far after few el eh ev same a b ef sum =
      let c : far ≡ count_of (x -ℤ low) = ef ∙ ap₂ (λ p q. count_of (p -ℤ q)) ev el in
      let p : low ≤ℤ x = omega (arith, ints, a, el, ev) in
      let q : x ≤ℤ high = omega (arith, ints, b, eh, ev) in
      let fits : before + far < 2 ^ 32 = subst (λ m. before + m < 2 ^ 32) (sym c) (few_found few p q) in
      sum fits ∙ ap (λ m. before + m) c ∙ found same p q

pub all_passed : (roles : List CoreRole) (n : ℤ) (s : Seat) (k before : ℕ) → length roles ≤ k → Passed roles n s k before → before ≡ number_in s (seats roles n)
all_passed roles n s k before le p =
    let e = ap (λ rs. number_in s (seats_from k rs n)) (drop_all k roles le) in
    let m = p.number in omega (arith, e, m)

-- ---- reach

pub between : (low x high : ℤ) → low ≤ℤ x → x ≤ℤ high → IsTurn low → IsTurn high → IsTurn x
between low x high a b l h = record { low = omega (arith, ints, a, l.low); high = omega (arith, ints, b, h.high) }

pub zero_turn : IsTurn (pos 0)
zero_turn = record { low = omega (arith, ints); high = omega (arith, ints) }

pub zero_near : IsNear (pos 0)
zero_near = record { low = omega (arith, ints); high = omega (arith, ints) }

pub near_turn : (x : ℤ) → IsNear x → IsTurn x
near_turn x h = record { low = omega (arith, ints, h.low); high = omega (arith, ints, h.high) }

pub turn_fits : (x : ℤ) → IsTurn x → SFits w64 x
turn_fits x h = omega (arith, ints, h.low, h.high)
