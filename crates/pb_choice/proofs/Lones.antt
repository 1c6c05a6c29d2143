-- A loop that comes round with nobody in it.
use Rattle.std.proofs.Common.{◌≡◌, inl, inr, ℕ, ℤ, pos, ◌≤ℤ◌, Bool, true, false, not, ◌&&◌, nat_eq, int_le, int_lt, Option, Some, None, List, [], ◌∷◌, refl, sym, ap, ◌∙◌, subst, arith}
use Rattle.std.specs.Prelude.{MatchOption}
use Rattle.std.proofs.lemmas.Bool.{and_parts, and_from, or_cases, or_left, or_right, false≢true, true≢false, not-true}
use Rattle.std.proofs.lemmas.Bool.Decides.{nat_tests}
use Rattle.std.proofs.lemmas.Int.{ints}
use Rattle.pb_affine.specs.declared.range.NRange.{NRange}
use Rattle.pb_affine.specs.Values.{is_up_to}
use Rattle.pb_core_language.specs.declared.protocol.CoreRole.{CoreRole}
use Rattle.pb_core_language.specs.Ranks.{seats, seat_at, total}
use Rattle.pb_core_language.specs.Tree.{Mark, BlockTree}
use Rattle.pb_core_language.specs.Flat.{stop}
use Rattle.pb_core_language.specs.FlatOf.{flat_block}
use Rattle.pb_core_language.specs.Lists.{some_below}
use Rattle.pb_core_language.specs.Rules.{holds_again, nobody}
use Rattle.pb_core_language.specs.Sound.{Rows}
use Rattle.pb_core_language.specs.Verdict.{Broken, IsIn, is_before_seat}
use Rattle.pb_core_language.specs.Ranks.{Seat}
use Rattle.pb_rules.proofs.Lists.{has, contains}
use Rattle.pb_rules.proofs.Order.{not_before}
use Rattle.pb_part_areas.specs.declared.area.Area.{Area}
use Rattle.pb_part_areas.specs.Areas as A
use Rattle.pb_part_areas.specs.Areas.{at, have}
use Rattle.pb_core_flat.specs.Seated.{rank, is_rank}
use Rattle.pb_core_flat.specs.GoesOn.{have_again}
use Rattle.pb_core_flat.proofs.Below.{some_below_is}
use Rattle.pb_core_flat.proofs.BreachesAdd.{holds_again_is}
use Rattle.pb_core_flat.proofs.Seats.{seat_of_rank, rank_of_seat}
use Rattle.pb_part_takers.specs.declared.held.Held.{Held}
use Rattle.pb_part_takers.specs.Loops.{ids_of}
use Rattle.pb_part_firsts.specs.Takers.{IsWhole}
use Rattle.pb_choice.specs.declared.found.Found.{Found}
use Rattle.pb_choice.specs.declared.found.Mark as F
use Rattle.pb_choice.specs.Empties.{is_open, any_open, is_within, IsFirstEmpty, IsNeverEmpty}
use Rattle.pb_choice.specs.Flaws.{IsFlaw, lonely, misled, lone_at, in_body, is_deserted}
use Rattle.pb_choice.specs.Found.{Improves, mark_of, broken_of, earlier, lone_found, lone_if}
use Rattle.pb_choice.specs.Scenes.{IsFair, Are}
use Rattle.pb_choice.specs.Walks.{FirstLone}
use Rattle.pb_choice.proofs.Improving.{improves_none, improves_one}
use Rattle.pb_choice.proofs.Leasts.{IsCommon, from_range, to_range, one_has, has_one}

both_ways : (a b : Bool) → (a ≡ true → b ≡ true) → (b ≡ true → a ≡ true) → a ≡ b
both_ways true b f g = sym (f refl)
both_ways false true f g = g refl
both_ways false false f g = refl

-- ---- open areas hold of somebody

low_in : (r : ℕ) (l e : ℤ) (f u : Bool) → int_lt l e && f && u ≡ true → nat_eq r r && int_le l l && int_lt l e && f && u ≡ true
low_in r l e f u h = grind (arith, ints, nat_tests)

some_in : (t l e f u : Bool) (a b x : ℤ) → t && int_le a x && int_lt x b && f && u ≡ true → int_lt a b && f && u ≡ true
some_in t l e f u a b x h = grind (arith, ints)

pub open_has : (list : List Area) (n : ℤ) → any_open list n ≡ true → (role : ℕ) × (x : ℤ) × (have list n role x ≡ true)
open_has [] n h = absurd (false≢true h)
open_has (a ∷ list) n h =
    elim (or_cases (is_open n a) (any_open list n) h) [
      | inl y ↦ (a.role, at a.low n, or_left (A.has a n a.role (at a.low n)) (have list n a.role (at a.low n)) (low_in a.role (at a.low n) (at a.end n) (int_le (pos a.from) n) (A.is_before n a.until) y))
      | inr z ↦ (let k = open_has list n z in (k.0, k.1, or_right (A.has a n k.0 k.1) (have list n k.0 k.1) k.2))
    ]

pub has_open : (list : List Area) (n : ℤ) (role : ℕ) (x : ℤ) → have list n role x ≡ true → any_open list n ≡ true
has_open [] n role x h = absurd (false≢true h)
has_open (a ∷ list) n role x h =
    elim (or_cases (A.has a n role x) (have list n role x) h) [
      | inl y ↦ or_left (is_open n a) (any_open list n) (some_in (nat_eq role a.role) true true (int_le (pos a.from) n) (A.is_before n a.until) (at a.low n) (at a.end n) x y)
      | inr z ↦ or_right (is_open n a) (any_open list n) (has_open list n role x z)
    ]

-- ---- nobody in a loop

both_true : (a b w r : Bool) → a ≡ b && w → w ≡ r → a ≡ true → (b ≡ true) × (r ≡ true)
both_true a b w r e f h = (grind arith, grind arith)

true_both : (a b w r : Bool) → a ≡ b && w → w ≡ r → b ≡ true → r ≡ true → a ≡ true
true_both a b w r e f g h = grind arith

module _ (range : NRange) (roles : List CoreRole) (areas whole ranks : List Area) (test : ℤ → ℕ → Bool) (is_whole : IsWhole range roles whole)
    (are : Are range roles areas (λ n role x. test n (rank roles n role x))) (common : IsCommon areas whole ranks) where
  somebody : (n : ℤ) → IsIn range n → any_open ranks n ≡ some_below (total roles n) (test n)
  somebody n w = both_ways (any_open ranks n) (some_below (total roles n) (test n))
      (λ h. let k = open_has ranks n h in
      let t = both_true (have ranks n k.0 k.1) (have areas n k.0 k.1) (have whole n k.0 k.1) (is_rank roles n k.0 k.1) (common n k.0 k.1) (is_whole.is n k.0 k.1 w) k.2 in
      (some_below_is (total roles n) (test n)).1 (rank roles n k.0 k.1, (seat_of_rank roles n (record { role = k.0; index = k.1 }) t.1).0, sym (are.is n k.0 k.1 w t.1) ∙ t.0))
      (λ h. let k = (some_below_is (total roles n) (test n)).0 h in
      let s = rank_of_seat roles n k.0 k.1 in
      let role : ℕ = (seat_at k.0 (seats roles n)).role in
      let x : ℤ = (seat_at k.0 (seats roles n)).index in
      has_open ranks n role x (true_both (have ranks n role x) (have areas n role x) (have whole n role x) (is_rank roles n role x) (common n role x) (is_whole.is n role x w)
      (are.is n role x w s.0 ∙ ap (test n) s.1 ∙ k.2) s.0))

to_within : (range : NRange) (n : ℤ) → IsIn range n → is_within range n ≡ true
to_within range n h = and_from (int_le (pos range.low) n) (is_up_to n range.high) (le (pos range.low) n h.low) (to_range range n h).high where
  le : (a b : ℤ) → a ≤ℤ b → int_le a b ≡ true
  le a b h = grind (arith, ints)

from_within : (range : NRange) (n : ℤ) → is_within range n ≡ true → IsIn range n
from_within range n h =
    let p = and_parts (int_le (pos range.low) n) (is_up_to n range.high) h in
    from_range range n (record { low = le (pos range.low) n p.0; high = p.1 }) where
      le : (a b : ℤ) → int_le a b ≡ true → a ≤ℤ b
      le a b h = grind (arith, ints)

-- the breaches of rule 9 at one place
record IsLonely (range : NRange) (m : Mark) (bad : ℤ → Bool) (c : Broken) : Type 0 where
  within : IsIn range c.n
  is : c.breach ≡ nobody 9 m
  bad_there : bad c.n ≡ true

lonely_from : (range : NRange) (roles : List CoreRole) (m : Mark) (bad : ℤ → Bool) (c : Broken) → IsFlaw range roles (lone_at m bad) c → IsLonely range m bad c
lonely_from range roles m bad c (lonely z within is there) =
    let t = one_has (bad c.n) m z (has _ z there) in
    record { within = within; is = is ∙ ap (nobody 9) (sym t.1); bad_there = t.0 }
lonely_from range roles m bad c (misled k z role x within r is there) = absurd (has [] z there)

lonely_to : (range : NRange) (roles : List CoreRole) (m : Mark) (bad : ℤ → Bool) (c : Broken) → IsLonely range m bad c → IsFlaw range roles (lone_at m bad) c
lonely_to range roles m bad c h = lonely m h.within h.is (contains _ m (has_one (bad c.n) m h.bad_there))

none_after : (a : Option Seat) → is_before_seat a None ≡ false
none_after None = refl
none_after (Some s) = refl

-- the least N at which the test is true, or none
pub lone_first : (range : NRange) (roles : List CoreRole) (m : F.Mark) (bad : ℤ → Bool) (best : Option Found) (n : ℤ) → IsIn range n → bad n ≡ true →
    ((k : ℤ) → IsIn range k → bad k ≡ true → n ≤ℤ k) → Improves (IsFlaw range roles (lone_at (mark_of m) bad)) best (earlier best (lone_found m n))
lone_first range roles m bad best n w h least =
    improves_one (IsFlaw range roles (lone_at (mark_of m) bad)) best (lone_found m n) refl
    (lonely_to range roles (mark_of m) bad (broken_of (lone_found m n)) (record { within = w; is = refl; bad_there = h }))
    (λ c f. let t : IsLonely range (mark_of m) bad c = lonely_from range roles (mark_of m) bad c f in
    not_before c (broken_of (lone_found m n)) (ap (λ z. z.rule) t.is) (ap (λ z. z.mark.number) t.is) (least c.n t.within t.bad_there) (λ e. none_after c.breach.at))

lone_none : (range : NRange) (roles : List CoreRole) (m : Mark) (bad : ℤ → Bool) (best : Option Found) → ((k : ℤ) → IsIn range k → bad k ≡ true → ⊥) → Improves (IsFlaw range roles (lone_at m bad)) best best
lone_none range roles m bad best none =
    improves_none (IsFlaw range roles (lone_at m bad)) best (λ c f. let t : IsLonely range m bad c = lonely_from range roles m bad c f in none c.n t.within t.bad_there)

-- ---- the loop

module _ (range : NRange) (whole : List Area) (held : List Held) (id : ℕ) (body : BlockTree) where
  -- whether it comes round
  comes : (roles : List CoreRole) (rows : Rows) (n : ℤ) → IsFair range roles rows (id ∷ ids_of held) body → holds_again 0 (flat_block roles n (id ∷ ids_of held) (pos 0) body stop) ≡ have_again 0 (id ∷ ids_of held) body
  comes roles rows n fair = holds_again_is rows false (id ∷ ids_of held) 0 roles n (pos 0) (id ∷ ids_of held) body fair.sound

  pub not_round : (m : Mark) (areas : List Area) (best : Option Found) (t : Bool) → t ≡ have_again 0 (id ∷ ids_of held) body → t ≡ false → FirstLone range whole held m id body areas best best
  not_round m areas best t e z = record {
    is = λ roles rows env stands fair are.
        lone_none range roles m (is_deserted roles env (ids_of held) id body) best (λ k w bad.
        true≢false (sym (and_parts (holds_again 0 (flat_block roles k (id ∷ ids_of held) (pos 0) body stop)) _ bad).0 ∙ comes roles rows k fair ∙ sym e ∙ z));
  }

  pub never_empty : (m : Mark) (areas ranks seen : List Area) (best : Option Found) (o : Option ℤ) → IsCommon areas whole ranks → seen ≡ ranks →
      MatchOption o (IsNeverEmpty range seen) (λ n. IsFirstEmpty range seen n) → o ≡ None → FirstLone range whole held m id body areas best best
  never_empty m areas ranks seen best o common same found is = record {
    is = λ roles rows env stands fair are.
        let never : IsNeverEmpty range seen = subst (λ q. MatchOption q (IsNeverEmpty range seen) (λ n. IsFirstEmpty range seen n)) is found in
        lone_none range roles m (is_deserted roles env (ids_of held) id body) best (λ k w bad.
        never.none k (record {
          within = to_within range k w;
          empty = ap (λ l. any_open l k) same ∙ somebody range roles areas whole ranks (in_body roles env (ids_of held) id body) stands.whole_is are common k w
              ∙ not-true (some_below (total roles k) (λ r. in_body roles env (ids_of held) id body k r)) (and_parts (holds_again 0 (flat_block roles k (id ∷ ids_of held) (pos 0) body stop)) _ bad).1;
        }));
  }

  pub first_empty_at : (m : F.Mark) (areas ranks seen : List Area) (best new : Option Found) (o : Option ℤ) (n : ℤ) (t : Bool) → t ≡ have_again 0 (id ∷ ids_of held) body → t ≡ true → IsCommon areas whole ranks → seen ≡ ranks →
      MatchOption o (IsNeverEmpty range seen) (λ n. IsFirstEmpty range seen n) → o ≡ Some n → new ≡ earlier best (lone_found m n) → FirstLone range whole held (mark_of m) id body areas best new
  first_empty_at m areas ranks seen best new o n t e y common same found is new_is = record {
    is = λ roles rows env stands fair are.
        let first : IsFirstEmpty range seen n = subst (λ q. MatchOption q (IsNeverEmpty range seen) (λ n. IsFirstEmpty range seen n)) is found in
        let w : IsIn range n = from_within range n first.there.within in
        let nobody_is : (k : ℤ) → IsIn range k → any_open seen k ≡ some_below (total roles k) (λ r. in_body roles env (ids_of held) id body k r) =
        λ k wk. ap (λ l. any_open l k) same ∙ somebody range roles areas whole ranks (in_body roles env (ids_of held) id body) stands.whole_is are common k wk in
        subst (λ q. Improves (IsFlaw range roles (lone_at (mark_of m) (is_deserted roles env (ids_of held) id body))) best q) (sym new_is)
        (lone_first range roles m (is_deserted roles env (ids_of held) id body) best n w
        (and_from (holds_again 0 (flat_block roles n (id ∷ ids_of held) (pos 0) body stop)) (not (some_below (total roles n) (λ r. in_body roles env (ids_of held) id body n r)))
        (comes roles rows n fair ∙ sym e ∙ y) (ap not (sym (nobody_is n w) ∙ first.there.empty)))
        (λ k wk bad. first.least k (record {
          within = to_within range k wk;
          empty = nobody_is k wk ∙ not-true (some_below (total roles k) (λ r. in_body roles env (ids_of held) id body k r)) (and_parts (holds_again 0 (flat_block roles k (id ∷ ids_of held) (pos 0) body stop)) _ bad).1;
        })));
  }

  pub lone_kept : (m : F.Mark) (areas ranks seen : List Area) (best new : Option Found) (o : Option ℤ) (t : Bool) → t ≡ have_again 0 (id ∷ ids_of held) body → t ≡ true → IsCommon areas whole ranks → seen ≡ ranks →
      MatchOption o (IsNeverEmpty range seen) (λ n. IsFirstEmpty range seen n) → new ≡ lone_if m o best → FirstLone range whole held (mark_of m) id body areas best new
  lone_kept m areas ranks seen best new None t e y common same found is =
      subst (λ q. FirstLone range whole held (mark_of m) id body areas best q) (sym is) (never_empty (mark_of m) areas ranks seen best None common same found refl)
  lone_kept m areas ranks seen best new (Some n) t e y common same found is = first_empty_at m areas ranks seen best new (Some n) n t e y common same found refl is
