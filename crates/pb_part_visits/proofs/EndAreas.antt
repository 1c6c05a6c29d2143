-- The areas of ends.
use Rattle.std.proofs.Common.{◌≡◌, ℕ, ℤ, pos, ◌+ℤ◌, ◌≤ℤ◌, nat_eq, int_le, int_lt, Bool, true, false, ◌&&◌, refl, ap, sym, ◌∙◌, subst, arith}
use Rattle.std.specs.Ordering.{int_eq}
use Rattle.std.proofs.lemmas.Bool.{false≢true}
use Rattle.std.proofs.lemmas.Bool.Decides.{nat_tests}
use Rattle.std.proofs.lemmas.Int.{ints}
use Rattle.pb_affine.specs.declared.lin.Base.{Base}
use Rattle.pb_affine.specs.declared.lin.Base.TheVariants.{Fixed, Param, Var}
use Rattle.pb_affine.specs.declared.lin.Lin.{Lin}
use Rattle.pb_affine.specs.Values.{value, base_value, shifted}
use Rattle.pb_core_language.specs.declared.tree.CoreEnd.{CoreEnd}
use Rattle.pb_core_language.specs.Sound.{is_small}
use Rattle.pb_part_areas.specs.Areas.{at}
use Rattle.pb_core_flat.specs.Seated.{is_at}
use Rattle.pb_core_flat.specs.Meets.{is_moving, is_passed, is_var}
use Rattle.pb_core_language.specs.declared.tree.Bounds.{Bounds}
use Rattle.pb_part_visits.specs.Visits.{is_small_off, IsBounded}
use Rattle.pb_part_visits.proofs.Meets.{small_off, small_next, small_sum, small_sum_next, small_of_bound}

at_shifted : (l : Lin) (c n : ℤ) → at (shifted l c) n ≡ at l n +ℤ c
at_shifted l c n = let b = base_value l.base n (pos 0) in shuffled l.off b c where
  shuffled : (a b c : ℤ) → a +ℤ c +ℤ b ≡ a +ℤ b +ℤ c
  shuffled a b c = omega (arith, ints)

below_next : (b : Bool) (l h e : ℤ) → e ≡ h +ℤ pos 1 → b && int_lt l e ≡ b && int_le l h
below_next b l h e k = grind (arith, ints, nat_tests)

pub staying_is : (t : Bounds) (next : Lin) (r b : Bool) (n : ℤ) → IsBounded t → (is_small_off (t.high.off +ℤ pos 1) ≡ true → next ≡ shifted t.high (pos 1)) →
    (is_small_off t.low.off ≡ true → is_small_off next.off ≡ true → r ≡ b && int_lt (at t.low n) (at next n)) → r ≡ b && int_le (at t.low n) (at t.high n)
staying_is t next r b n k e h =
    let high : is_small_off (t.high.off +ℤ pos 1) ≡ true = small_next t.high.off (small_of_bound t.high k.high) in
    let is : next ≡ shifted t.high (pos 1) = e high in
    h (small_off t.low.off (small_of_bound t.low k.low)) (subst (λ l. is_small_off l.off ≡ true) (sym is) high)
    ∙ below_next b (at t.low n) (at t.high n) (at next n) (ap (λ l. at l n) is ∙ at_shifted t.high (pos 1) n)

base_moving : (b : Base) (n i : ℤ) → is_var b ≡ true → base_value b n i ≡ i
base_moving Fixed n i e = absurd (false≢true e)
base_moving Param n i e = absurd (false≢true e)
base_moving Var n i e = refl

base_staying : (b : Base) (n i j : ℤ) → is_var b ≡ false → base_value b n i ≡ base_value b n j
base_staying Fixed n i j e = refl
base_staying Param n i j e = refl
base_staying Var n i j e = absurd (false≢true (sym e))

swapped : (a b c : ℤ) → a ≡ b +ℤ c → a ≡ c +ℤ b
swapped a b c e = omega (arith, ints)

-- the place of an end at the first value
pub moving_place : (end : CoreEnd) (low place : Lin) (n : ℤ) → is_moving end ≡ true → place ≡ shifted low end.at.off → at place n ≡ value end.at n (at low n)
moving_place end low place n v is =
    swapped (at place n) (at low n) end.at.off (ap (λ l. at l n) is ∙ at_shifted low end.at.off n) ∙ ap (λ z. end.at.off +ℤ z) (sym (base_moving end.at.base n (at low n) v))

pub staying_place : (end : CoreEnd) (n i : ℤ) → is_moving end ≡ false → at end.at n ≡ value end.at n i
staying_place end n i e = ap (λ z. end.at.off +ℤ z) (base_staying end.at.base n (pos 0) i e)

meeting_bools : (r s le : Bool) (er mr role : ℕ) (ev x m mv : ℤ) → er ≡ mr → s ≡ (nat_eq er role && int_eq ev x) && le → r ≡ s && int_eq ev m → m ≡ mv →
    r ≡ (le && (nat_eq er role && int_eq ev x)) && (nat_eq mr role && int_eq mv x)
meeting_bools r s le er mr role ev x m mv e es er' em = grind (arith, ints, nat_tests)

pub meeting_is : (end other : CoreEnd) (place : Lin) (r s le : Bool) (n low : ℤ) (role : ℕ) (x : ℤ) → end.role ≡ other.role → at place n ≡ value other.at n low → s ≡ is_at end n (pos 0) role x && le →
    r ≡ s && int_eq (at end.at n) (at place n) → r ≡ (le && is_at end n (pos 0) role x) && is_at other n low role x
meeting_is end other place r s le n low role x e is hs h = meeting_bools r s le end.role other.role role (at end.at n) x (at place n) (value other.at n low) e hs h is

apart_bools : (r le : Bool) (er mr role : ℕ) (p q : Bool) → (er ≡ mr → ⊥) → r ≡ false → r ≡ (le && (nat_eq er role && p)) && (nat_eq mr role && q)
apart_bools r le er mr role p q h none = grind (arith, nat_tests)

pub meeting_apart : (end other : CoreEnd) (r le : Bool) (n low : ℤ) (role : ℕ) (x : ℤ) → (end.role ≡ other.role → ⊥) → r ≡ false → r ≡ (le && is_at end n (pos 0) role x) && is_at other n low role x
meeting_apart end other r le n low role x e none = apart_bools r le end.role other.role role (int_eq (value end.at n (pos 0)) x) (int_eq (value other.at n low) x) e none

passed_bools : (role r : ℕ) (x lo hi off a b n : ℤ) → a ≡ lo +ℤ off → b ≡ hi +ℤ off +ℤ pos 1 → pos 0 ≤ℤ n →
    nat_eq role r && int_le a x && int_lt x b && int_le (pos 0) n && true ≡ nat_eq r role && (int_le (lo +ℤ off) x && int_le x (hi +ℤ off))
passed_bools role r x lo hi off a b n ea eb p = grind (arith, ints, nat_tests)

pub passed_is : (end : CoreEnd) (t : Bounds) (low high next : Lin) (n : ℤ) (role : ℕ) (x : ℤ) → is_small end.at.off ≡ true → IsBounded t →
    (is_small_off (t.low.off +ℤ end.at.off) ≡ true → low ≡ shifted t.low end.at.off) → (is_small_off (t.high.off +ℤ end.at.off) ≡ true → high ≡ shifted t.high end.at.off) →
    (is_small_off (high.off +ℤ pos 1) ≡ true → next ≡ shifted high (pos 1)) → pos 0 ≤ℤ n →
    nat_eq role end.role && int_le (at low n) x && int_lt x (at next n) && int_le (pos 0) n && true ≡ nat_eq end.role role && is_passed end.at.off (at t.low n) (at t.high n) x
passed_is end t low high next n role x h k el eh en p =
    let sl : is_small t.low.off ≡ true = small_of_bound t.low k.low in
    let sh : is_small t.high.off ≡ true = small_of_bound t.high k.high in
    let low_is : low ≡ shifted t.low end.at.off = el (small_sum t.low.off end.at.off sl h) in
    let high_is : high ≡ shifted t.high end.at.off = eh (small_sum t.high.off end.at.off sh h) in
    let next_is : next ≡ shifted high (pos 1) = en (subst (λ l. is_small_off (l.off +ℤ pos 1) ≡ true) (sym high_is) (small_sum_next t.high.off end.at.off sh h)) in
    passed_bools role end.role x (at t.low n) (at t.high n) end.at.off (at low n) (at next n) n
    (ap (λ l. at l n) low_is ∙ at_shifted t.low end.at.off n)
    (ap (λ l. at l n) next_is ∙ at_shifted high (pos 1) n ∙ ap (λ z. z +ℤ pos 1) (ap (λ l. at l n) high_is ∙ at_shifted t.high end.at.off n))
    p
