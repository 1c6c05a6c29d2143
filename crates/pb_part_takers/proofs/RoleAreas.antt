-- The areas of all ranks.
use Rattle.std.proofs.Common.{◌≡◌, ◌<◌, ◌+◌, ℕ, zero, suc, ℤ, pos, ◌+ℤ◌, ◌≤ℤ◌, int_le, int_lt, nat_eq, Bool, true, ◌&&◌, ◌||◌, List, [], ◌∷◌, length, get_or, drop, Option, sym, ap, subst, ◌∙◌, arith}
use Rattle.std.proofs.lemmas.Int.{ints}
use Rattle.std.proofs.lemmas.Bool.{and_parts}
use Rattle.std.proofs.lemmas.Bool.Decides.{nat_tests}
use Rattle.pb_affine.specs.declared.lin.Lin.{Lin}
use Rattle.pb_affine.specs.declared.range.NRange.{NRange}
use Rattle.pb_affine.specs.Values.{value, shifted}
use Rattle.pb_cases.specs.Breakpoints.{IsInRange}
use Rattle.pb_part_areas.specs.declared.area.Area.{Area}
use Rattle.pb_part_areas.specs.Areas.{has, have, at, is_before}
use Rattle.pb_part_areas.specs.Fits.{Fits, IsCutOf, IsEdgeOfIf}
use Rattle.pb_part_areas.proofs.Meets.{low_edge}
use Rattle.pb_core_language.specs.declared.protocol.CoreRole.{CoreRole}
use Rattle.pb_core_language.specs.Cuts.{edges, role_cuts}
use Rattle.pb_core_language.specs.Ranks.{seats_from}
use Rattle.pb_core_language.specs.Rules.{is_seat}
use Rattle.pb_core_language.specs.Sound.{is_bound, are_roles}
use Rattle.pb_core_flat.proofs.Seats.{seat_in_role}
use Rattle.pb_core_language.specs.declared.tree.Bounds.{Bounds}
use Rattle.pb_part_takers.specs.Pieces.{AreAmong}
use Rattle.pb_part_takers.specs.Sums.{IsSum}
use Rattle.pb_part_takers.proofs.Among.{near, cut_of, bound_parts, among_left}
use Rattle.pb_part_takers.proofs.EndAreas.{next_is}
use Rattle.pb_part_takers.proofs.HeldLoops.{from_place}

-- ---- one role

role_ints : (role number : ℕ) (x v w h n : ℤ) (from : ℕ) (u : Bool) → w ≡ h +ℤ pos 1 → pos from ≤ℤ n → u ≡ true →
    nat_eq role number && int_le v x && int_lt x w && int_le (pos from) n && u ≡ nat_eq role number && (int_le v x && int_le x h)
role_ints role number x v w h n from u e f t = grind (arith, ints, nat_tests)

value_next : (l : Lin) (n : ℤ) → value (shifted l (pos 1)) n (pos 0) ≡ value l n (pos 0) +ℤ pos 1
value_next l n = omega (arith, ints)

behind : (l end : Lin) → IsSum l (pos 1) end → is_bound l ≡ true → end ≡ shifted l (pos 1)
behind l end s b = let z = near l.off (bound_parts l b).1 in next_is l end s (omega (arith, ints, z.low)) (omega (arith, ints, z.high))

pub role_is : (number : ℕ) (over : Bounds) (range : NRange) (end : Lin) (until : Option ℕ) → IsSum over.high (pos 1) end → ((n : ℤ) → IsInRange range n → is_before n until ≡ true) →
    (n : ℤ) (role : ℕ) (x : ℤ) → is_bound over.high ≡ true → IsInRange range n →
    has (record { role = number; low = over.low; end = end; from = range.low; until = until }) n role x ≡ nat_eq role number && (int_le (value over.low n (pos 0)) x && int_le x (value over.high n (pos 0)))
role_is number over range end until s until_is n role x b within =
    role_ints role number x (value over.low n (pos 0)) (at end n) (value over.high n (pos 0)) n range.low (is_before n until) (ap (λ l. at l n) (behind over.high end s b) ∙ value_next over.high n) within.low (until_is n within)

itself : (a : ℕ) → pos a ≤ℤ pos a
itself a = omega (arith, ints)

pub role_fits : (number : ℕ) (over : Bounds) (range : NRange) (end : Lin) (until : Option ℕ) → IsSum over.high (pos 1) end → ((cuts : List Lin) → IsEdgeOfIf range cuts until) →
    (cuts : List Lin) → is_bound over.low ≡ true → is_bound over.high ≡ true → AreAmong (edges over.low over.high) cuts → Fits range cuts (record { role = number; low = over.low; end = end; from = range.low; until = until })
role_fits number over range end until s edge cuts bl bh among =
    let hl = bound_parts over.low bl in
    let hh = bound_parts over.high bh in
    let p = near over.low.off hl.1 in
    let q = near over.high.off hh.1 in
    record {
      low = cut_of cuts over.low among.0 hl.0 (omega (arith, ints, p.low)) (omega (arith, ints, p.high));
      end = subst (IsCutOf cuts) (sym (behind over.high end s bh)) (cut_of cuts (shifted over.high (pos 1)) among.1.0 hh.0 (omega (arith, ints, q.low)) (omega (arith, ints, q.high)));
      from = low_edge range cuts (pos range.low) (itself range.low);
      until = edge cuts;
    }

-- ---- all of them

next_number : (i : ℕ) → i + 1 ≡ suc i
next_number i = omega arith

abbrev pub seated : ℕ → List CoreRole → ℤ → ℕ → ℤ → Bool
seated k roles n role x = is_seat (record { role = role; index = x }) (seats_from k roles n)

role_bools : (o m a s l : Bool) → m ≡ o || a → o || (a || s) ≡ l → m || s ≡ l
role_bools o m a s l e h = grind (arith, nat_tests)

pub record IsRole (roles : List CoreRole) (cuts : List Lin) (r : CoreRole) : Type 0 where
  pub low : is_bound r.low ≡ true
  pub high : is_bound r.high ≡ true
  pub among : AreAmong (role_cuts roles) cuts → AreAmong (edges r.low r.high) cuts

roles_from : (roles : List CoreRole) (i : ℕ) → are_roles roles ≡ true → are_roles (drop i roles) ≡ true
roles_from roles zero h = h
roles_from [] (suc i) h = h
roles_from (r ∷ rs) (suc i) h = roles_from rs i (and_parts (is_bound r.high) (are_roles rs) (and_parts (is_bound r.low) (is_bound r.high && are_roles rs) h).1).1

cuts_from : (roles : List CoreRole) (i : ℕ) (cuts : List Lin) → AreAmong (role_cuts roles) cuts → AreAmong (role_cuts (drop i roles)) cuts
cuts_from roles zero cuts h = h
cuts_from [] (suc i) cuts h = h
cuts_from (r ∷ rs) (suc i) cuts h = cuts_from rs i cuts h.1.1

pub role_at : (roles : List CoreRole) (i : ℕ) (r : CoreRole) (cuts : List Lin) → i < length roles → r ≡ get_or roles i r → are_roles roles ≡ true → IsRole roles cuts r
role_at roles i r cuts lt is h =
    let k : are_roles (r ∷ drop (i + 1) roles) ≡ true = subst (λ z. are_roles z ≡ true) (from_place roles i r lt is) (roles_from roles i h) in
    let a = and_parts (is_bound r.low) (is_bound r.high && are_roles (drop (i + 1) roles)) k in
    let b = and_parts (is_bound r.high) (are_roles (drop (i + 1) roles)) a.1 in
    record {
      low = a.0;
      high = b.0;
      among = λ f. among_left (edges r.low r.high) (role_cuts (drop (i + 1) roles)) cuts (subst (λ z. AreAmong (role_cuts z) cuts) (from_place roles i r lt is) (cuts_from roles i cuts f));
    }

pub role_step : (roles : List CoreRole) (i : ℕ) (r : CoreRole) (n : ℤ) (role : ℕ) (x : ℤ) (old new : List Area) (a l : Bool) → i < length roles → r ≡ get_or roles i r →
    have new n role x ≡ have old n role x || a → a ≡ nat_eq role i && (int_le (value r.low n (pos 0)) x && int_le x (value r.high n (pos 0))) →
    have old n role x || seated i (drop i roles) n role x ≡ l → have new n role x || seated (i + 1) (drop (i + 1) roles) n role x ≡ l
role_step roles i r n role x old new a l lt is e ea h =
    role_bools (have old n role x) (have new n role x) (nat_eq role i && (int_le (value r.low n (pos 0)) x && int_le x (value r.high n (pos 0)))) (seated (i + 1) (drop (i + 1) roles) n role x) l
    (e ∙ ap (λ z. have old n role x || z) ea)
    (ap (λ k. have old n role x || ((nat_eq role i && (int_le (value r.low n (pos 0)) x && int_le x (value r.high n (pos 0)))) || seated k (drop (i + 1) roles) n role x)) (next_number i)
    ∙ ap (λ z. have old n role x || z) (sym (seat_in_role i r (drop (i + 1) roles) n role x) ∙ ap (λ z. seated i z n role x) (sym (from_place roles i r lt is)))
    ∙ h)
