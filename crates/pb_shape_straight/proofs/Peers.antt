-- The number of a peer stays an int32 on the way, and is the number of a rank.
use Rattle.std.proofs.Common.{◌≡◌, ◌≤◌, ◌<◌, ℕ, zero, suc, ◌+◌, ◌*◌, ℤ, pos, negsuc, ◌+ℤ◌, ◌-ℤ◌, ◌*ℤ◌, ◌≤ℤ◌, Bool, true, false, ◌&&◌, ◌||◌, nat_eq, nat_le, ◌==◌, int_le, int_lt, ◌⊎◌, inl, inr, Option, Some, None, All, List, [], ◌∷◌, map, length, get_or, refl, sym, ◌∙◌, ap, ap₂, subst, arith}
use Rattle.std.specs.Ordering.{int_eq}
use Rattle.std.proofs.lemmas.Int.{ints}
use Rattle.std.proofs.lemmas.Bool.Decides.{nat_tests}
use Rattle.std.proofs.lemmas.List.{length-append, length-map}
use Rattle.std.proofs.lemmas.List.Elements.{All-head, All-tail}
use Rattle.std.proofs.lemmas.Bool.{and_parts}
use lib.IntN.{suc_ℤ-*ℤ, zero-*ℤ}
use Rattle.pb_affine.specs.declared.lin.Base.{Base}
use Rattle.pb_affine.specs.declared.lin.Base.TheVariants.{Fixed, Param, Var}
use Rattle.pb_affine.specs.declared.lin.Lin.{Lin}
use Rattle.pb_affine.specs.declared.range.NRange.{NRange}
use Rattle.pb_affine.specs.Values.{value, base_value, range, count_of, IsSmall}
use Rattle.pb_core_language.specs.declared.protocol.CoreRole.{CoreRole}
use Rattle.pb_core_language.specs.Ranks as C
use Rattle.pb_core_language.specs.Ranks.{Formula, place_with, size_with, seats, seats_from, total}
use Rattle.pb_core_language.specs.Laws.{IsInRole, AreInhabited, Numbered, Totalled}
use Rattle.pb_core_language.specs.Plain.{Protocol}
use Rattle.pb_core_language.specs.Rules.{is_seat}
use Rattle.pb_core_language.specs.Sound.{is_small, is_over_n, is_bound, are_roles, is_range, is_sound}
use Rattle.pb_core_language.specs.Verdict.{IsIn}
use Rattle.pb_core_language.specs.Verdict as V
use Rattle.pb_core_flat.specs.Seated.{rank, is_rank}
use Rattle.pb_core_flat.proofs.Seats.{same_number, seat_in_role, seat_of_rank}
use Rattle.pb_local.specs.declared.stmt.Peer.{Peer}
use Rattle.pb_local.specs.Ranks as L
use Rattle.pb_local.specs.Ranks.{Seat, Sum, no_ranks}
use Rattle.pb_local.specs.Computed.{fits, all_fit, place_at, peer_number, peer_numbers, is_peer}
use Rattle.pb_local.specs.Tree.{Program}
use Rattle.pb_local.specs.WellMade as W
use Rattle.pb_local.specs.WellMade.{IsRange, IsInRange, IsRole, IsWellMade}
use Rattle.pb_shape.specs.Places.{role_of}
use Rattle.pb_shape.specs.Shape.{HasShape}
use Rattle.pb_shape.specs.Straight.{IsVariable}
use Rattle.pb_shape_straight.proofs.Fits.{IsSize, fits_is}

-- ---- the same ranks and sums

abbrev sum_of : Formula → Sum
sum_of f = record { a = f.a; b = f.b }

places_same : (rs : List CoreRole) (k : ℕ) (f : Formula) → k < length rs → get_or (L.places_with (sum_of f) (map role_of rs)) k no_ranks ≡ sum_of (place_with f k rs)
places_same [] k f h = absurd (omega (arith, h))
places_same (r ∷ rs) zero f h = refl
places_same (r ∷ rs) (suc k) f h = places_same rs k (C.with_role f r) (omega (arith, h))

sizes_same : (rs : List CoreRole) (f : Formula) → L.size_with (sum_of f) (map role_of rs) ≡ sum_of (size_with f rs)
sizes_same [] f = refl
sizes_same (r ∷ rs) f = sizes_same rs (C.with_role f r)

totals_same : (rs : List CoreRole) (j : ℕ) (n : ℤ) → length (L.seats_from j (map role_of rs) n) ≡ length (seats_from j rs n)
totals_same [] j n = refl
totals_same (r ∷ rs) j n =
    let xs = range (value r.low n (pos 0)) (value r.high n (pos 0)) in
    length-append (map (λ x. record { role = j; index = x }) xs) (L.seats_from (suc j) (map role_of rs) n)
    ∙ ap₂ (λ a b. a + b) (length-map xs (λ x. record { role = j; index = x }) ∙ sym (length-map xs (λ x. record { role = j; index = x }))) (totals_same rs (suc j) n)
    ∙ sym (length-append (map (λ x. record { role = j; index = x }) xs) (seats_from (suc j) rs n))

-- ---- ranks are in their roles

abbrev seat_of : ℕ → ℤ → C.Seat
seat_of k x = record { role = k; index = x }

none_of : (role k : ℕ) (b s : Bool) → role < k → s ≡ false → (nat_eq role k && b) || s ≡ false
none_of role k b s h e = grind (arith, nat_tests)

not_earlier : (k : ℕ) (rs : List CoreRole) (n : ℤ) (role : ℕ) (x : ℤ) → role < k → is_seat (seat_of role x) (seats_from k rs n) ≡ false
not_earlier k [] n role x h = refl
not_earlier k (r ∷ rs) n role x h = seat_in_role k r rs n role x ∙ none_of role k _ _ h (not_earlier (suc k) rs n role x (omega arith))

between : (low high x : ℤ) (a s : Bool) → s ≡ false → (a && (int_le low x && int_le x high)) || s ≡ true → (low ≤ℤ x) × (x ≤ℤ high)
between low high x a s e h = (grind (arith, ints), grind (arith, ints))

later : (role k : ℕ) (b s : Bool) → k < role → (nat_eq role k && b) || s ≡ true → s ≡ true
later role k b s h e = grind (arith, nat_tests)

in_role : (rs : List CoreRole) (j k : ℕ) (n x : ℤ) → is_seat (seat_of (j + k) x) (seats_from j rs n) ≡ true → IsInRole k rs n x
in_role [] j k n x h = cc
in_role (r ∷ rs) j zero n x h =
    between (value r.low n (pos 0)) (value r.high n (pos 0)) x (nat_eq (j + 0) j) (is_seat (seat_of (j + 0) x) (seats_from (suc j) rs n))
    (not_earlier (suc j) rs n (j + 0) x (omega arith)) (sym (seat_in_role j r rs n (j + 0) x) ∙ h)
in_role (r ∷ rs) j (suc k) n x h =
    let e : j + suc k ≡ suc j + k = omega arith in
    in_role rs (suc j) k n x (subst (λ role. is_seat (seat_of role x) (seats_from (suc j) rs n) ≡ true) e
    (later (j + suc k) j _ _ (omega arith) (sym (seat_in_role j r rs n (j + suc k) x) ∙ h)))

pub is_in_role : (roles : List CoreRole) (n : ℤ) (role : ℕ) (x : ℤ) → is_rank roles n role x ≡ true → IsInRole role roles n x
is_in_role roles n role x h = let e : role ≡ 0 + role = omega arith in in_role roles 0 role n x (subst (λ k. is_rank roles n k x ≡ true) e h)

-- ranks with one number are one
pub same_rank : (roles : List CoreRole) (n : ℤ) (role : ℕ) (x : ℤ) (role' : ℕ) (x' : ℤ) → is_rank roles n role' x' ≡ true → rank roles n role x ≡ rank roles n role' x' → (role ≡ role') × (x ≡ x')
same_rank roles n role x role' x' is e = by role x (sym (same_number (seats roles n) (seat_of role x) (seat_of role' x') is) ∙ equal _ _ e)
  where
    equal : (a b : ℕ) → a ≡ b → (a == b) ≡ true
    equal a b e = grind (arith, nat_tests)

    by : (role : ℕ) (x : ℤ) → (nat_eq role role' && int_eq x x') ≡ true → (role ≡ role') × (x ≡ x')
    by role x h = (grind (arith, ints, nat_tests), grind (arith, ints, nat_tests))

role_is : (rs : List CoreRole) (k : ℕ) (n x : ℤ) → IsInRole k rs n x → k < length rs
role_is [] k n x h = absurd h
role_is (r ∷ rs) zero n x h = omega arith
role_is (r ∷ rs) (suc k) n x h = omega (arith, role_is rs k n x h)

-- ---- small offsets

record IsLittle (x : ℤ) : Type 0 where
  low : negsuc 99999 ≤ℤ x
  high : x ≤ℤ pos 100000

little : (x : ℤ) → is_small x ≡ true → IsLittle x
little x h = record { low = grind (arith, ints); high = grind (arith, ints) }

bound_little : (l : Lin) → is_bound l ≡ true → IsLittle l.off
bound_little l h = little l.off (and_parts (is_over_n l.base) (is_small l.off) h).1

pub bound_small : (l : Lin) → is_bound l ≡ true → IsSmall l.off
bound_small l h = let s = bound_little l h in record { low = omega (arith, ints, s.low); high = omega (arith, ints, s.high) }

-- between which numbers the ends of a role, or of a foreach, are
pub bound_near : (l : Lin) (n : ℤ) → pos 1 ≤ℤ n → is_bound l ≡ true → (negsuc 99999 ≤ℤ value l n (pos 0)) × (value l n (pos 0) ≤ℤ (n +ℤ pos 100000))
bound_near l n size h = by l.base l.off (bound_little l h) (and_parts (is_over_n l.base) (is_small l.off) h).0
  where
    by : (b : Base) (off : ℤ) → IsLittle off → is_over_n b ≡ true → (negsuc 99999 ≤ℤ (off +ℤ base_value b n (pos 0))) × ((off +ℤ base_value b n (pos 0)) ≤ℤ (n +ℤ pos 100000))
    by Fixed off s e = (omega (arith, ints, s.low), omega (arith, ints, s.high, size))
    by Param off s e = (omega (arith, ints, s.low, size), omega (arith, ints, s.high))
    by Var off s e = cc

record AreLittle (low high : Lin) : Type 0 where
  low_is : is_bound low ≡ true
  high_is : is_bound high ≡ true
  from : IsLittle low.off
  to : IsLittle high.off

first_little : (r : CoreRole) (rs : List CoreRole) → are_roles (r ∷ rs) ≡ true → AreLittle r.low r.high
first_little r rs h =
    let a = (and_parts (is_bound r.low) _ h).0 in
    let b = (and_parts (is_bound r.high) (are_roles rs) (and_parts (is_bound r.low) _ h).1).0 in
    record { low_is = a; high_is = b; from = bound_little r.low a; to = bound_little r.high b }

others_little : (r : CoreRole) (rs : List CoreRole) → are_roles (r ∷ rs) ≡ true → are_roles rs ≡ true
others_little r rs h = (and_parts (is_bound r.high) (are_roles rs) (and_parts (is_bound r.low) _ h).1).1

-- the constant of a role's place, and of the number of all ranks
place_off : (rs : List CoreRole) (j k : ℕ) (f : Formula) (n x : ℤ) → are_roles rs ≡ true → IsInRole k rs n x → ((pos 0 -ℤ pos (j * 200001)) ≤ℤ f.b) × (f.b ≤ℤ pos (j * 200001)) →
    ((pos 0 -ℤ pos ((j + k) * 200001) -ℤ pos 100000) ≤ℤ (place_with f k rs).b) × ((place_with f k rs).b ≤ℤ (pos ((j + k) * 200001) +ℤ pos 100000))
place_off [] j k f n x small within h = absurd within
place_off (r ∷ rs) j zero f n x small within h =
    let a = first_little r rs small in
    let e : j + 0 ≡ j = omega arith in
    rw e (omega (arith, ints, h.0, a.from.low, a.from.high), omega (arith, ints, h.1, a.from.low, a.from.high))
place_off (r ∷ rs) j (suc k) f n x small within h =
    let a = first_little r rs small in
    let e : j + suc k ≡ suc j + k = omega arith in
    rw e (place_off rs (suc j) k (C.with_role f r) n x (others_little r rs small) within
    (omega (arith, ints, h.0, a.from.low, a.from.high, a.to.low, a.to.high), omega (arith, ints, h.1, a.from.low, a.from.high, a.to.low, a.to.high)))

size_off : (rs : List CoreRole) (j : ℕ) (f : Formula) → are_roles rs ≡ true → ((pos 0 -ℤ pos (j * 200001)) ≤ℤ f.b) × (f.b ≤ℤ pos (j * 200001)) →
    ((pos 0 -ℤ pos ((j + length rs) * 200001)) ≤ℤ (size_with f rs).b) × ((size_with f rs).b ≤ℤ pos ((j + length rs) * 200001))
size_off [] j f small h = let e : j + 0 ≡ j = omega arith in rw e h
size_off (r ∷ rs) j f small h =
    let a = first_little r rs small in
    let e : j + suc (length rs) ≡ suc j + length rs = omega arith in
    rw e (size_off rs (suc j) (C.with_role f r) (others_little r rs small)
    (omega (arith, ints, h.0, a.from.low, a.from.high, a.to.low, a.to.high), omega (arith, ints, h.1, a.from.low, a.from.high, a.to.low, a.to.high)))

index_near : (rs : List CoreRole) (k : ℕ) (n x : ℤ) → pos 1 ≤ℤ n → are_roles rs ≡ true → IsInRole k rs n x → (negsuc 99999 ≤ℤ x) × (x ≤ℤ (n +ℤ pos 100000))
index_near [] k n x size small h = absurd h
index_near (r ∷ rs) zero n x size small h =
    let a = first_little r rs small in
    let b = bound_near r.low n size a.low_is in
    let c = bound_near r.high n size a.high_is in
    (omega (arith, ints, h.0, b.0), omega (arith, ints, h.1, c.1))
index_near (r ∷ rs) (suc k) n x size small h = index_near rs k n x size (others_little r rs small) h

-- ---- the numbers of N

times_least : (a m : ℕ) → pos 0 ≤ℤ (pos a *ℤ pos m)
times_least zero m = let e : pos 0 *ℤ pos m ≡ pos 0 = zero-*ℤ (pos m) in omega (arith, ints, e)
times_least (suc a) m = omega (arith, ints, suc_ℤ-*ℤ (pos a) (pos m), times_least a m)

times_more : (a : ℤ) (m : ℕ) → pos 1 ≤ℤ a → pos m ≤ℤ (a *ℤ pos m)
times_more (pos zero) m h = absurd (omega (arith, ints, h))
times_more (pos (suc a)) m h = omega (arith, ints, suc_ℤ-*ℤ (pos a) (pos m), times_least a m)
times_more (negsuc a) m h = absurd (omega (arith, ints, h))

is_pos : (low : ℕ) (n : ℤ) → pos low ≤ℤ n → (m : ℕ) × (n ≡ pos m)
is_pos low (pos m) h = (m, refl)
is_pos low (negsuc m) h = absurd (omega (arith, ints, h))

up_to : (m : ℕ) (high : Option ℕ) → V.IsUpTo (pos m) high → W.IsUpTo m high
up_to m None h = tt
up_to m (Some high) h = omega (arith, ints, h)

inhabited : (rs : List CoreRole) (r : NRange) (m : ℕ) → IsInRange r m → All (IsRole r) (map role_of rs) → AreInhabited rs (pos m)
inhabited [] r m within each = tt
inhabited (q ∷ qs) r m within each =
    let h = All-head (IsRole r) (role_of q) (map role_of qs) each in
    (record { some = h.some m within; low = h.low_fixed; high = h.high_fixed }, inhabited qs r m within (All-tail (IsRole r) (role_of q) (map role_of qs) each))

-- the numbers of a program's world
pub record IsWorld (p : Protocol) (n : ℤ) : Type 0 where
  pub inhabited : AreInhabited p.roles n
  pub size : IsSize n

number_most : (m low : ℕ) (high : Option ℕ) (a b : ℤ) → V.IsUpTo (pos m) high → W.IsUpperEnd low high → ((pos 1 ≤ℤ a) ⊎ (high ≡ Some low)) → (t : ℕ) → t ≤ 2000000000 → pos t ≡ a *ℤ pos m +ℤ b → negsuc 12800063 ≤ℤ b →
    pos m ≤ℤ pos 2012900000
number_most m low (Some high) a b within end size t few e off = omega (arith, ints, within, end.1)
number_most m low None a b within end (inl h) t few e off = omega (arith, ints, few, e, off, times_more a m h)
number_most m low None a b within end (inr h) t few e off = cc

-- the peer can be computed and has this number
pub record IsNumbered (p : Protocol) (l : Program) (n : ℤ) (me : Seat) (i : ℤ) (e : Peer) : Type 0 where
  pub there : is_peer n me i l e ≡ true
  pub same : count_of (peer_number n me i l e) ≡ rank p.roles n e.role (value e.at n i)

inside : (a t : ℕ) → a < t → int_le (pos 0) (pos a) && int_lt (pos a) (pos t) ≡ true
inside a t h = grind (arith, ints)

peer_fits : (num t : ℕ) (x m b : ℤ) → pos num ≡ x +ℤ (m +ℤ b) → (negsuc 12999999 ≤ℤ b) × (b ≤ℤ pos 13000000) → (negsuc 99999 ≤ℤ x) × (x ≤ℤ pos 2013000000) → num < t → t ≤ 2000000000 →
    ((all_fit (x ∷ m ∷ (x +ℤ m) ∷ (x +ℤ m +ℤ b) ∷ []) && (int_le (pos 0) (x +ℤ m +ℤ b) && int_lt (x +ℤ m +ℤ b) (pos t))) ≡ true) × (count_of (x +ℤ m +ℤ b) ≡ num)
peer_fits num t x m b e b' near lt few =
    let s : x +ℤ m +ℤ b ≡ pos num = omega (arith, ints, e) in
    let f1 : fits x ≡ true = fits_is x (omega (arith, ints, near.0)) (omega (arith, ints, near.1)) in
    let f2 : fits m ≡ true = fits_is m (omega (arith, ints, e, b'.0, b'.1, near.0, near.1, lt, few)) (omega (arith, ints, e, b'.0, b'.1, near.0, near.1, lt, few)) in
    let f3 : fits (x +ℤ m) ≡ true = fits_is (x +ℤ m) (omega (arith, ints, e, b'.0, b'.1, lt, few)) (omega (arith, ints, e, b'.0, b'.1, lt, few)) in
    let f4 : fits (pos num) ≡ true = fits_is (pos num) (omega (arith, ints, lt, few)) (omega (arith, ints, lt, few)) in
    (rw (f1, f2, f3, s) (rw (f4, inside num t lt) refl), ap count_of s)

module _ (number_is : Numbered) (total_is : Totalled) (p : Protocol) (l : Program) (n : ℤ) (sound : is_sound p ≡ true) (shape : HasShape p l) (made : IsWellMade l) (within : IsIn p.range n) (few : total p.roles n ≤ 2000000000) where
  few_roles : length p.roles ≤ 64
  few_roles = by (length p.roles) (and_parts (nat_le (length p.roles) 64) _ (and_parts (is_range p.range) _ sound).1).0
    where
      by : (k : ℕ) → nat_le k 64 ≡ true → k ≤ 64
      by k h = grind (arith, nat_tests)

  small_roles : are_roles p.roles ≡ true
  small_roles = (and_parts (are_roles p.roles) _ (and_parts (nat_le (length p.roles) 64) _ (and_parts (is_range p.range) _ sound).1).1).0

  range_made : IsRange p.range
  range_made = subst (λ r. IsRange r) shape.range made.range

  roles_made : W.AreRoles p.range (map role_of p.roles)
  roles_made = subst (λ r. W.AreRoles r (map role_of p.roles)) shape.range (subst (λ rs. W.AreRoles l.range rs) shape.roles made.roles)

  pub world : IsWorld p n
  world =
      let m = is_pos p.range.low n within.low in
      subst (λ z. IsWorld p z) (sym m.1) (at m.0 (subst (λ z. IsIn p.range z) m.1 within) (subst (λ z. total p.roles z ≤ 2000000000) m.1 few))
    where
      at : (m : ℕ) → IsIn p.range (pos m) → total p.roles (pos m) ≤ 2000000000 → IsWorld p (pos m)
      at m within' few' =
          let fine = inhabited p.roles p.range m (record { low = omega (arith, ints, within'.low); high = up_to m p.range.high within'.high }) roles_made.each in
          let zero_sum : Formula = record { a = pos 0; b = pos 0 } in
          let off = size_off p.roles 0 zero_sum small_roles (omega (arith, ints), omega (arith, ints)) in
          let same : L.ranks_of (map role_of p.roles) ≡ sum_of (C.size p.roles) = sizes_same p.roles zero_sum in
          let more : (pos 1 ≤ℤ (C.size p.roles).a) ⊎ W.IsSingle p.range = subst (λ s. (pos 1 ≤ℤ s.a) ⊎ W.IsSingle p.range) same roles_made.size in
          record {
            inhabited = fine;
            size = record {
              low = omega (arith, ints, within'.low, range_made.some);
              high = number_most m p.range.low p.range.high (C.size p.roles).a (C.size p.roles).b within'.high range_made.high more (total p.roles (pos m)) few' (total_is p.roles (pos m) fine) (omega (arith, ints, off.0, few_roles));
            };
          }

  -- the index of a rank
  pub index_is_near : (role : ℕ) (x : ℤ) → is_rank p.roles n role x ≡ true → IsVariable x
  index_is_near role x h =
      let near = index_near p.roles role n x world.size.low small_roles (is_in_role p.roles n role x h) in
      record { low = omega (arith, ints, near.0); high = omega (arith, ints, near.1, world.size.high) }

  -- ---- peers

  pub peer_is : (me : Seat) (e : Peer) (i : ℤ) → is_rank p.roles n e.role (value e.at n i) ≡ true → IsNumbered p l n me i e
  peer_is me e i is =
      let x = value e.at n i in
      let role = is_in_role p.roles n e.role x is in
      let place = place_with (record { a = pos 0; b = pos 0 }) e.role p.roles in
      let same : place_at l e.role ≡ sum_of place = ap (λ rs. get_or (L.places_of rs) e.role no_ranks) shape.roles ∙ places_same p.roles e.role (record { a = pos 0; b = pos 0 }) (role_is p.roles e.role n x role) in
      let totals : L.total l.roles n ≡ total p.roles n = ap (λ rs. L.total rs n) shape.roles ∙ totals_same p.roles 0 n in
      let off = place_off p.roles 0 e.role (record { a = pos 0; b = pos 0 }) n x small_roles role (omega (arith, ints), omega (arith, ints)) in
      let fewer : e.role < 64 = omega (arith, role_is p.roles e.role n x role, few_roles) in
      let near = index_near p.roles e.role n x world.size.low small_roles role in
      let done = peer_fits (rank p.roles n e.role x) (total p.roles n) x (place.a *ℤ n) place.b (number_is p.roles e.role n x world.inhabited role)
      (omega (arith, ints, off.0, fewer), omega (arith, ints, off.1, fewer)) (near.0, omega (arith, ints, near.1, world.size.high)) (seat_of_rank p.roles n (seat_of e.role x) is).0 few in
      record {
        there = subst (λ t. (all_fit (peer_numbers n me i l e) && (int_le (pos 0) (peer_number n me i l e) && int_lt (peer_number n me i l e) (pos t))) ≡ true) (sym totals)
            (subst (λ (s : Sum). (all_fit (x ∷ (s.a *ℤ n) ∷ (x +ℤ (s.a *ℤ n)) ∷ (x +ℤ (s.a *ℤ n) +ℤ s.b) ∷ []) && (int_le (pos 0) (x +ℤ (s.a *ℤ n) +ℤ s.b) && int_lt (x +ℤ (s.a *ℤ n) +ℤ s.b) (pos (total p.roles n)))) ≡ true) (sym same) done.0);
        same = subst (λ (s : Sum). count_of (x +ℤ (s.a *ℤ n) +ℤ s.b) ≡ rank p.roles n e.role x) (sym same) done.1;
      }
