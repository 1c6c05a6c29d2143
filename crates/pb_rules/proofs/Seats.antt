-- Which seats are in the rank list: those whose index lies in the range of their role.
use Rattle.std.proofs.Common.{◌≡◌, ℕ, zero, suc, ◌+◌, ℤ, pos, negsuc, ◌+ℤ◌, ◌-ℤ◌, ◌≤ℤ◌, ◌<ℤ◌, true, false, nat_eq, ◌⊎◌, inl, inr, Option, Some, None, List, [], ◌∷◌, map, refl, sym, ap, ap₂, ◌∙◌, subst, arith}
use Rattle.std.specs.List.{slice_get}
use Rattle.std.specs.Ordering.{int_eq}
use Rattle.std.proofs.lemmas.Bool.{or_cases, or_left, or_right, and_parts, and_from, eqb-true, eq-eqb, false_from_ne_true, false≢true}
use Rattle.std.proofs.lemmas.Int.{ints}
use Rattle.pb_affine.specs.Values.{value, range, count_of, count_from}
use Rattle.pb_core_language.specs.declared.protocol.CoreRole.{CoreRole}
use Rattle.pb_core_language.specs.Ranks.{Seat, seat_eq, seats_from, seats}
use Rattle.pb_core_language.specs.Rules.{is_seat}
use Rattle.pb_rules.proofs.Lists.{Has, has_cases, has_left, has_right, has_map, map_has}

-- ---- ranges

pick : (low x : ℤ) → low ≤ℤ x → (low ≡ x) ⊎ ((low +ℤ pos 1) ≤ℤ x)
pick low x h = grind (arith, ints)

counted : (c : ℕ) (low x : ℤ) → Has (count_from c low) x → (low ≤ℤ x) × (x <ℤ (low +ℤ pos c))
counted zero low x h = absurd h
counted (suc c) low x (inl e) = (omega (arith, ints), omega (arith, ints))
counted (suc c) low x (inr h) = let t = counted c (low +ℤ pos 1) x h in (omega (arith, ints), omega (arith, ints))

count_has : (c : ℕ) (low x : ℤ) → low ≤ℤ x → x <ℤ (low +ℤ pos c) → Has (count_from c low) x
count_has zero low x h k = absurd (omega (arith, ints))
count_has (suc c) low x h k =
    elim (pick low x h) [ inl e ↦ inl e | inr more ↦ inr (count_has c (low +ℤ pos 1) x more (omega (arith, ints))) ]

count_at_most : (z x : ℤ) → x <ℤ pos (count_of z) → pos 0 ≤ℤ x → x <ℤ z
count_at_most (pos n) x h k = h
count_at_most (negsuc n) x h k = absurd (omega (arith, ints))

at_most_count : (z : ℤ) → z ≤ℤ pos (count_of z)
at_most_count (pos n) = omega (arith, ints)
at_most_count (negsuc n) = omega (arith, ints)

-- from a sum to a difference
shift_one : (low high x c : ℤ) → low ≤ℤ x → x <ℤ (low +ℤ c) → ((x -ℤ low) <ℤ c) × (pos 0 ≤ℤ (x -ℤ low))
shift_one low high x c h k = (omega (arith, ints), omega (arith, ints))

up_to_high : (low high x : ℤ) → (x -ℤ low) <ℤ (high +ℤ pos 1 -ℤ low) → x ≤ℤ high
up_to_high low high x h = omega (arith, ints)

below_count : (low high x c : ℤ) → x ≤ℤ high → (high +ℤ pos 1 -ℤ low) ≤ℤ c → x <ℤ (low +ℤ c)
below_count low high x c h k = omega (arith, ints)

pub in_range : (low high x : ℤ) → Has (range low high) x → (low ≤ℤ x) × (x ≤ℤ high)
in_range low high x h =
    let t = counted (count_of (high +ℤ pos 1 -ℤ low)) low x h in
    let u = shift_one low high x (pos (count_of (high +ℤ pos 1 -ℤ low))) t.0 t.1 in
    (t.0, up_to_high low high x (count_at_most (high +ℤ pos 1 -ℤ low) (x -ℤ low) u.0 u.1))

pub range_has : (low high x : ℤ) → low ≤ℤ x → x ≤ℤ high → Has (range low high) x
range_has low high x h k =
    count_has (count_of (high +ℤ pos 1 -ℤ low)) low x h (below_count low high x (pos (count_of (high +ℤ pos 1 -ℤ low))) k (at_most_count (high +ℤ pos 1 -ℤ low)))

-- ---- tests of seats

int_same : (a b : ℤ) → int_eq a b ≡ true → a ≡ b
int_same a b h = grind (arith, ints)

same_int : (a : ℤ) → int_eq a a ≡ true
same_int a = grind (arith, ints)

abbrev seat_of : ℕ → ℤ → Seat
seat_of k x = record { role = k; index = x }

pub seat_same : (a b : Seat) → seat_eq a b ≡ true → a ≡ b
seat_same a b h =
    let hs = and_parts (nat_eq a.role b.role) (int_eq a.index b.index) h in
    ap₂ seat_of (eqb-true a.role b.role hs.0) (int_same a.index b.index hs.1)

pub same_seat : (a b : Seat) → a ≡ b → seat_eq a b ≡ true
same_seat a b e = subst (λ c. seat_eq a c ≡ true) e (and_from (nat_eq a.role a.role) (int_eq a.index a.index) (eq-eqb a.role a.role refl) (same_int a.index))

seat_has : (a : Seat) (list : List Seat) → is_seat a list ≡ true → Has list a
seat_has a [] h = absurd (false≢true h)
seat_has a (b ∷ bs) h = elim (or_cases (seat_eq a b) (is_seat a bs) h) [ inl e ↦ inl (sym (seat_same a b e)) | inr k ↦ inr (seat_has a bs k) ]

has_seat : (a : Seat) (list : List Seat) → Has list a → is_seat a list ≡ true
has_seat a [] h = absurd h
has_seat a (b ∷ bs) (inl e) = or_left (seat_eq a b) (is_seat a bs) (same_seat a b (sym e))
has_seat a (b ∷ bs) (inr h) = or_right (seat_eq a b) (is_seat a bs) (has_seat a bs h)

-- ---- seats of the rank list

-- the role has the index at N = n
pub record IsInRole (r : CoreRole) (n x : ℤ) : Type 0 where
  pub low : value r.low n (pos 0) ≤ℤ x
  pub high : x ≤ℤ value r.high n (pos 0)

record IsSeated (k : ℕ) (roles : List CoreRole) (n : ℤ) (s : Seat) : Type 0 where
  j : ℕ
  r : CoreRole
  got : slice_get roles j ≡ Some r
  role : s.role ≡ k + j
  inside : IsInRole r n s.index

seated : (k : ℕ) (roles : List CoreRole) (n : ℤ) (s : Seat) → Has (seats_from k roles n) s → IsSeated k roles n s
seated k [] n s h = absurd h
seated k (r ∷ rs) n s h =
    elim (has_cases (map (seat_of k) (range (value r.low n (pos 0)) (value r.high n (pos 0)))) (seats_from (suc k) rs n) s h) [
      | inl here ↦
          let t = has_map (seat_of k) (range (value r.low n (pos 0)) (value r.high n (pos 0))) s here in
          let b = in_range (value r.low n (pos 0)) (value r.high n (pos 0)) t.0 t.1 in
          let i = ap (λ x. x.index) t.2 in
          let o = ap (λ x. x.role) t.2 in
          record { j = 0; r = r; got = refl; role = omega arith; inside = subst (λ x. IsInRole r n x) i (record { low = b.0; high = b.1 }) }
      | inr there ↦
          let t = seated (suc k) rs n s there in
          record { j = suc t.j; r = t.r; got = t.got; role = next_role s.role k t.j t.role; inside = t.inside }
    ] where
      next_role : (x y z : ℕ) → x ≡ suc y + z → x ≡ y + suc z
      next_role x y z e = omega arith

some_same : {X : Type 0} (x y : X) → Some x ≡ Some y → x ≡ y
some_same x y e = ap (or_that x) e where
  or_that : {X : Type 0} → X → Option X → X
  or_that x None = x
  or_that x (Some y) = y

seats_has : (k j : ℕ) (roles : List CoreRole) (r : CoreRole) (n : ℤ) (s : Seat) → slice_get roles j ≡ Some r → s.role ≡ k + j → IsInRole r n s.index → Has (seats_from k roles n) s
seats_has k j [] r n s got e inside = cc
seats_has k zero (q ∷ qs) r n s got e inside =
    has_left (map (seat_of k) (range (value q.low n (pos 0)) (value q.high n (pos 0)))) (seats_from (suc k) qs n) s
    (subst (λ p. Has (map (seat_of k) (range (value p.low n (pos 0)) (value p.high n (pos 0)))) s) (sym (some_same q r got))
    (subst (λ x. Has (map (seat_of k) (range (value r.low n (pos 0)) (value r.high n (pos 0)))) (seat_of x s.index)) (same_role k s.role e)
    (map_has (seat_of k) (range (value r.low n (pos 0)) (value r.high n (pos 0))) s.index (range_has (value r.low n (pos 0)) (value r.high n (pos 0)) s.index inside.low inside.high)))) where
      same_role : (k x : ℕ) → x ≡ k + 0 → k ≡ x
      same_role k x e = omega arith
seats_has k (suc j) (q ∷ qs) r n s got e inside =
    has_right (map (seat_of k) (range (value q.low n (pos 0)) (value q.high n (pos 0)))) (seats_from (suc k) qs n) s
    (seats_has (suc k) j qs r n s got (next k j s.role e) inside) where
      next : (k j x : ℕ) → x ≡ k + suc j → x ≡ suc k + j
      next k j x e = omega arith

three : (low high x : ℤ) → ((low ≤ℤ x) × (x ≤ℤ high)) ⊎ ((x <ℤ low) ⊎ (high <ℤ x))
three low high x = grind (arith, ints)

-- an index that isn't among the ranks is below or beyond its role
pub outside : (roles : List CoreRole) (r : CoreRole) (n : ℤ) (s : Seat) → slice_get roles s.role ≡ Some r → is_seat s (seats roles n) ≡ false → (s.index <ℤ value r.low n (pos 0)) ⊎ (value r.high n (pos 0) <ℤ s.index)
outside roles r n s got out =
    elim (three (value r.low n (pos 0)) (value r.high n (pos 0)) s.index) [
      | inl both ↦ absurd (false≢true (sym out ∙ has_seat s (seats roles n) (seats_has 0 s.role roles r n s got (omega arith) (record { low = both.0; high = both.1 }))))
      | inr out' ↦ out'
    ]

-- and the other way round
pub outside_seat : (roles : List CoreRole) (r : CoreRole) (n : ℤ) (s : Seat) → slice_get roles s.role ≡ Some r → (IsInRole r n s.index → ⊥) → is_seat s (seats roles n) ≡ false
outside_seat roles r n s got out =
    false_from_ne_true (is_seat s (seats roles n)) (λ t.
    let h = seated 0 roles n s (seat_has s (seats roles n) t) in
    let e : s.role ≡ h.j = omega (arith, h.role) in
    let same : r ≡ h.r = some_same r h.r (sym got ∙ ap (slice_get roles) e ∙ h.got) in
    out (subst (λ q. IsInRole q n s.index) (sym same) h.inside))
