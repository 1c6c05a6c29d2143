-- Areas said by guards.
use Rattle.std.proofs.Common.{◌≡◌, ◌≢◌, ◌<◌, ◌≤◌, ◌+◌, ◌<ℤ◌, ◌≤ℤ◌, inl, inr, ◌⊎◌, ℕ, suc, ℤ, pos, ◌+ℤ◌, Bool, true, false, ◌&&◌, ◌||◌, nat_eq, nat_lt, int_le, int_lt, Option, Some, None, List, [], ◌∷◌, ◌++◌, length, refl, sym, ap, ◌∙◌, subst, arith}
use Rattle.std.specs.List.{All, Contains}
use Rattle.std.proofs.lemmas.Bool.{and_parts, or_cases, true≢false, false≢true}
use Rattle.std.proofs.lemmas.Bool.Decides.{nat_tests}
use Rattle.std.proofs.lemmas.Int.{ints}
use Rattle.std.proofs.Math.Bool.{or-false, or_assoc}
use Rattle.pb_text.specs.declared.limits.TheConstants.{MOST_NUMBER}
use Rattle.pb_affine.specs.declared.lin.Base.{Base}
use Rattle.pb_affine.specs.declared.lin.Base.TheVariants.{Fixed, Param, Var}
use Rattle.pb_affine.specs.declared.guard.Guard.{Guard}
use Rattle.pb_affine.specs.declared.lin.Lin.{Lin}
use Rattle.pb_affine.specs.declared.range.NRange.{NRange}
use Rattle.pb_affine.specs.Values.{base_value, holds, hold, is_at_least, is_at_most, is_from_on, is_up_to, IsSmallGuard}
use Rattle.pb_part_areas.specs.declared.area.Area.{Area}
use Rattle.pb_part_areas.specs.Areas.{has, at, is_before}
use Rattle.pb_part_areas.specs.Fits.{Fits}
use Rattle.pb_cases.specs.Bounds.{IsAligned, IsEdge, IsEdgeIf, or_zero, after}
use Rattle.pb_cases.specs.Breakpoints.{IsCut, IsMeeting, IsInRange, Division}
use Rattle.pb_choice.proofs.Leasts.{to_range}
use Rattle.pb_core_language.specs.declared.protocol.CoreRole.{CoreRole}
use Rattle.pb_core_language.specs.Ranks.{Seat, seats_from}
use Rattle.pb_core_language.specs.Rules.{is_seat}
use Rattle.pb_core_language.specs.Verdict.{IsIn, IsUpTo}
use Rattle.pb_core_flat.specs.Seated.{is_rank}
use Rattle.pb_core_flat.proofs.Seats.{seat_in_role}
use Rattle.pb_local.specs.WellMade.{IsRange, IsBoundIf}
use Rattle.pb_project_choice.specs.Sayable.{division, IsBeyond, IsGuardOf}

-- ---- edges are small, or past the range

pub cut_in : (cuts : List Lin) (l : Lin) → All IsCut cuts → Contains cuts l → IsCut l
cut_in cuts l h c = subst IsCut c.2 (h c.0 l c.1)

near_meeting : (cuts : List Lin) (m : ℤ) → All IsCut cuts → IsMeeting cuts m → m ≤ℤ pos 2000000000
near_meeting cuts m h k =
    let d = cut_in cuts k.d h k.d_in in
    let c = cut_in cuts k.c h k.c_in in
    elim k.here [
      | inl e ↦ omega (arith, ints, e, d.small.low, d.small.high, c.small.low, c.small.high)
      | inr e ↦ omega (arith, ints, e, d.small.low, d.small.high, c.small.low, c.small.high)
    ]

low_near : (m : ℤ) (low : ℕ) → low ≤ 2000000000 → m ≤ℤ pos low → m ≤ℤ pos 2000000000
low_near m low h k = omega (arith, ints, h, k)

low_is : (m : ℤ) (low : ℕ) → low ≤ 2000000000 → m ≡ pos low → m ≤ℤ pos 2000000000
low_is m low h k = omega (arith, ints, h, k)

low_below : (m : ℤ) (low : ℕ) → low ≤ 2000000000 → m <ℤ pos low → m ≤ℤ pos 2000000000
low_below m low h k = omega (arith, ints, h, k)

edge_near : (range : NRange) (cuts : List Lin) (m : ℤ) → IsRange range → All IsCut cuts → IsEdge (division range cuts) m → (m ≤ℤ pos 2000000000) ⊎ (is_up_to m range.high ≡ false)
edge_near range cuts m r h (inl b) =
    elim b.why [
      | inl e ↦ inl (low_is m range.low r.most e)
      | inr k ↦ inl (near_meeting cuts m h k)
    ]
edge_near range cuts m r h (inr (inl lt)) = inl (low_below m range.low r.most lt)
edge_near range cuts m r h (inr (inr f)) = inr f

-- ---- the greatest N of a guard

past_is : (t h : ℕ) (n : ℤ) → int_le (pos t +ℤ pos 1) (pos h) ≡ false → n ≤ℤ pos h → int_le n (pos t) ≡ true
past_is t h n e k = grind (arith, ints)

past : (high : Option ℕ) (t : ℕ) (n : ℤ) → is_up_to (pos t +ℤ pos 1) high ≡ false → IsUpTo n high → true ≡ int_le n (pos t)
past None t n e k = absurd (true≢false e)
past (Some h) t n e k = sym (past_is t h n e k)

too_far : (t : ℕ) (m : ℤ) → MOST_NUMBER < t → m ≡ pos t +ℤ pos 1 → m ≤ℤ pos 2000000000 → ⊥
too_far t m h e k = omega (arith, ints, h, e, k)

beyond : (range : NRange) (cuts : List Lin) (to : Option ℕ) (n : ℤ) → IsRange range → All IsCut cuts → IsEdgeIf (division range cuts) (pos 1) to → IsIn range n → IsBeyond to → true ≡ is_up_to n to
beyond range cuts None n r h e within far = refl
beyond range cuts (Some t) n r h e within far =
    elim (edge_near range cuts (pos t +ℤ pos 1) r h e) [
      | inl k ↦ absurd (too_far t (pos t +ℤ pos 1) far refl k)
      | inr f ↦ past range.high t n f within.high
    ]

capped_is : (range : NRange) (cuts : List Lin) (to result : Option ℕ) (n : ℤ) → IsRange range → All IsCut cuts → IsEdgeIf (division range cuts) (pos 1) to → IsIn range n →
    (result ≡ to) ⊎ ((result ≡ None) × IsBeyond to) → is_up_to n result ≡ is_up_to n to
capped_is range cuts to result n r h e within (inl same) = ap (is_up_to n) same
capped_is range cuts to result n r h e within (inr k) = ap (is_up_to n) k.0 ∙ beyond range cuts to n r h e within k.1

-- ---- a guard of an area, for any value of the variable

still : (b : Base) (o n i : ℤ) → b ≢ Var → o +ℤ base_value b n i ≡ o +ℤ base_value b n (pos 0)
still Fixed o n i h = refl
still Param o n i h = refl
still Var o n i h = absurd (h refl)

at_least : (o : Option Lin) (n i x : ℤ) → (or_zero o).base ≢ Var → is_at_least x o n i ≡ is_at_least x o n (pos 0)
at_least None n i x h = refl
at_least (Some l) n i x h = ap (λ v. int_le v x) (still l.base l.off n i h)

at_most : (o : Option Lin) (n i x : ℤ) → (or_zero o).base ≢ Var → is_at_most x o n i ≡ is_at_most x o n (pos 0)
at_most None n i x h = refl
at_most (Some l) n i x h = ap (λ v. int_le x v) (still l.base l.off n i h)

pub guard_is : (range : NRange) (a : Area) (g : Guard) (to : Option ℕ) → ((n : ℤ) (role : ℕ) (x : ℤ) → IsInRange range n → holds g n (pos 0) role x ≡ has a n role x) →
    ((d : Division) → Fits d.range d.cuts a → IsAligned d g) → IsSmallGuard g → IsBoundIf to → (to ≡ g.to) ⊎ ((to ≡ None) × IsBeyond g.to) →
    IsGuardOf range a (record { role = g.role; low = g.low; high = g.high; from = g.from; to = to })
guard_is range a g to is aligned small bound same = record {
  is = λ cuts n i role x r h f within.
      let al : IsAligned (division range cuts) g = aligned (division range cuts) f in
      ap (λ z. nat_eq role g.role && z && is_at_most x g.high n i && is_from_on n g.from && is_up_to n to) (at_least g.low n i x (cut_in cuts (or_zero g.low) h al.low_in).no_var)
      ∙ ap (λ z. nat_eq role g.role && is_at_least x g.low n (pos 0) && z && is_from_on n g.from && is_up_to n to) (at_most g.high n i x (cut_in cuts (after (or_zero g.high)) h al.high_in).no_var)
      ∙ ap (λ z. nat_eq role g.role && is_at_least x g.low n (pos 0) && is_at_most x g.high n (pos 0) && is_from_on n g.from && z) (capped_is range cuts g.to to n r h al.to_edge within same)
      ∙ is n role x (to_range range n within);
  from_edge = λ cuts f. (aligned (division range cuts) f).from_edge;
  small = record { low = small.low; high = small.high };
  to = bound;
}

-- ---- guards that hold of no rank

seat_of : ℕ → ℤ → Seat
seat_of k x = record { role = k; index = x }

here_or_later : (role k m : ℕ) (b s : Bool) → (nat_eq role k && b) || s ≡ true → (s ≡ true → role < suc k + m) → role < k + suc m
here_or_later role k m b s h f =
    elim (or_cases (nat_eq role k && b) s h) [
      | inl e ↦ (let p = (and_parts (nat_eq role k) b e).0 in grind (arith, nat_tests))
      | inr e ↦ (let p = f e in omega (arith, p))
    ]

role_below : (k : ℕ) (rs : List CoreRole) (n : ℤ) (role : ℕ) (x : ℤ) → is_seat (record { role = role; index = x }) (seats_from k rs n) ≡ true → role < k + length rs
role_below k [] n role x h = absurd (false≢true h)
role_below k (r ∷ rs) n role x h =
    here_or_later role k (length rs) _ (is_seat (record { role = role; index = x }) (seats_from (suc k) rs n)) (sym (seat_in_role k r rs n role x) ∙ h) (λ e. role_below (suc k) rs n role x e)

from_zero : (a b : ℕ) → a < 0 + b → a < b
from_zero a b h = omega (arith, h)

pub rank_role : (roles : List CoreRole) (n : ℤ) (role : ℕ) (x : ℤ) → is_rank roles n role x ≡ true → role < length roles
rank_role roles n role x h = from_zero role (length roles) (role_below 0 roles n role x h)

other_role : (role k : ℕ) (a b c d : Bool) → role < k → (m : ℕ) → k ≤ m → nat_eq role m && a && b && c && d ≡ false
other_role role k a b c d h m e = grind (arith, nat_tests)

too_late : (a b c d f : Bool) → d ≡ false → a && b && c && d && f ≡ false
too_late a b c d f e = grind (arith, nat_tests)

late : (f h : ℕ) (n : ℤ) → int_le (pos f +ℤ pos 0) (pos h) ≡ false → n ≤ℤ pos h → int_le (pos f) n ≡ false
late f h n e k = grind (arith, ints)

from_past : (high : Option ℕ) (f : ℕ) (n : ℤ) → is_up_to (pos f +ℤ pos 0) high ≡ false → IsUpTo n high → int_le (pos f) n ≡ false
from_past None f n e k = absurd (true≢false e)
from_past (Some h) f n e k = late f h n e k

far_from : (f : ℕ) (m : ℤ) → MOST_NUMBER < f → m ≡ pos f +ℤ pos 0 → m ≤ℤ pos 2000000000 → ⊥
far_from f m h e k = omega (arith, ints, h, e, k)

not_yet : (range : NRange) (cuts : List Lin) (from : Option ℕ) (n : ℤ) → IsRange range → All IsCut cuts → IsEdgeIf (division range cuts) (pos 0) from → IsIn range n → IsBeyond from → is_from_on n from ≡ false
not_yet range cuts None n r h e within far = absurd far
not_yet range cuts (Some f) n r h e within far =
    elim (edge_near range cuts (pos f +ℤ pos 0) r h e) [
      | inl k ↦ absurd (far_from f (pos f +ℤ pos 0) far refl k)
      | inr p ↦ from_past range.high f n p within.high
    ]

no_guard : (range : NRange) (a : Area) (g : Guard) (cuts : List Lin) (list : List CoreRole) (roles : ℕ) (n i : ℤ) (role : ℕ) (x : ℤ) → length list ≡ roles → IsRange range → All IsCut cuts → Fits range cuts a → IsIn range n →
    is_rank list n role x ≡ true → IsGuardOf range a g → (roles ≤ g.role) ⊎ IsBeyond g.from → has a n role x ≡ false
no_guard range a g cuts list roles n i role x same r h f within is_one it (inl le) =
    sym (it.is cuts n i role x r h f within) ∙ other_role role roles (is_at_least x g.low n i) (is_at_most x g.high n i) (is_from_on n g.from) (is_up_to n g.to) (subst (λ z. role < z) same (rank_role list n role x is_one)) g.role le
no_guard range a g cuts list roles n i role x same r h f within is_one it (inr far) =
    sym (it.is cuts n i role x r h f within) ∙ too_late (nat_eq role g.role) (is_at_least x g.low n i) (is_at_most x g.high n i) (is_from_on n g.from) (is_up_to n g.to) (not_yet range cuts g.from n r h (it.from_edge cuts f) within far)

-- ---- lists of guards

pub hold_append : (xs ys : List Guard) (n i : ℤ) (role : ℕ) (x : ℤ) → hold (xs ++ ys) n i role x ≡ hold xs n i role x || hold ys n i role x
hold_append [] ys n i role x = refl
hold_append (g ∷ xs) ys n i role x = ap (λ z. holds g n i role x || z) (hold_append xs ys n i role x) ∙ sym (or_assoc (holds g n i role x) _ _)

pub hold_pushed : (xs ys : List Guard) (g : Guard) (h : Bool) (n i : ℤ) (role : ℕ) (x : ℤ) → ys ≡ xs ++ g ∷ [] → holds g n i role x ≡ h → hold ys n i role x ≡ hold xs n i role x || h
hold_pushed xs ys g h n i role x e eh =
    ap (λ z. hold z n i role x) e ∙ hold_append xs (g ∷ []) n i role x ∙ ap (λ z. hold xs n i role x || z) (or-false (holds g n i role x) ∙ eh)

pub unpushed : (o h : Bool) → h ≡ false → o ≡ o || h
unpushed o h e = sym (or-false o) ∙ ap (λ z. o || z) (sym e)

-- the guards with an area's, or without it
pub added : (range : NRange) (a : Area) (g : Guard) (roles : ℕ) (old new : List Guard) → IsGuardOf range a g → (new ≡ old ++ g ∷ []) ⊎ ((new ≡ old) × ((roles ≤ g.role) ⊎ IsBeyond g.from)) →
    (cuts : List Lin) (list : List CoreRole) (n i : ℤ) (role : ℕ) (x : ℤ) → length list ≡ roles → IsRange range → All IsCut cuts → Fits range cuts a → IsIn range n → is_rank list n role x ≡ true →
    hold new n i role x ≡ hold old n i role x || has a n role x
added range a g roles old new it (inl e) cuts list n i role x same r h f within is_one = hold_pushed old new g (has a n role x) n i role x e (it.is cuts n i role x r h f within)
added range a g roles old new it (inr k) cuts list n i role x same r h f within is_one =
    ap (λ z. hold z n i role x) k.0 ∙ unpushed (hold old n i role x) (has a n role x) (no_guard range a g cuts list roles n i role x same r h f within is_one it k.1)

-- ---- areas with no N

closed_bools : (f u : ℕ) (n : ℤ) (p : Bool) → nat_lt f u ≡ false → p && int_le (pos f) n && int_lt n (pos u) ≡ false
closed_bools f u n p h = grind (arith, ints, nat_tests)

pub closed_area : (a : Area) (u : ℕ) → a.until ≡ Some u → nat_lt a.from u ≡ false → (n : ℤ) (role : ℕ) (x : ℤ) → has a n role x ≡ false
closed_area a u e h n role x =
    ap (λ z. nat_eq role a.role && int_le (at a.low n) x && int_lt x (at a.end n) && int_le (pos a.from) n && is_before n z) e
    ∙ closed_bools a.from u n (nat_eq role a.role && int_le (at a.low n) x && int_lt x (at a.end n)) h
