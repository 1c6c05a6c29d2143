-- Spans as the N that keep an order, and where an end reaches as the indices that it asks for.
use Rattle.std.proofs.Common.{◌≡◌, ℕ, ℤ, pos, ◌+ℤ◌, ◌-ℤ◌, ◌≤ℤ◌, ◌<ℤ◌, int_le, Bool, true, false, inl, inr, Option, Some, None, if◌then◌else◌, refl, sym, ap, subst, arith}
use Rattle.std.proofs.lemmas.Bool.{cases_Bool, true≢false}
use Rattle.std.proofs.lemmas.Int.{ints}
use Rattle.pb_affine.specs.declared.lin.Base.{Base}
use Rattle.pb_affine.specs.declared.lin.Base.TheVariants.{Fixed, Param, Var}
use Rattle.pb_affine.specs.declared.lin.Lin.{Lin}
use Rattle.pb_affine.specs.declared.range.NRange.{NRange}
use Rattle.pb_affine.specs.Values.{value, base_value}
use Rattle.pb_core_language.specs.Verdict as V
use Rattle.pb_core_language.specs.Verdict.{IsIn}
use Rattle.pb_rules.specs.declared.line.Line.{Line}
use Rattle.pb_rules.specs.declared.span.Span.{Span}
use Rattle.pb_core_language.specs.declared.tree.Bounds.{Bounds}
use Rattle.pb_rules.specs.declared.ends.Reach.{Reach}
use Rattle.pb_rules.specs.Lines.{moves, line_of, part_of_n, value_at, IsUpTo, IsInSpan, number_if, whole, nowhere, later, earlier_end, kept_where, at_most, below}
use Rattle.pb_rules.specs.Traps.{reach_in, reach, alive}
use Rattle.pb_rules.proofs.Seats.{in_range, range_has}
use Rattle.pb_rules.proofs.Places.{IsValue}

-- ---- spans

le_true : (a b : ℤ) → int_le a b ≡ true → a ≤ℤ b
le_true a b h = grind (arith, ints)

le_false : (a b : ℤ) → int_le a b ≡ false → b <ℤ a
le_false a b h = grind (arith, ints)

nowhere_none : (n : ℤ) → IsInSpan nowhere n → ⊥
nowhere_none n h = none n h.low h.high where
  none : (n : ℤ) → pos 1 ≤ℤ n → n ≤ℤ pos 0 → ⊥
  none n h k = omega (arith, ints)

later_both : (a b n : ℤ) → later a b ≤ℤ n → (a ≤ℤ n) × (b ≤ℤ n)
later_both a b n h = grind (arith, ints)

later_from : (a b n : ℤ) → a ≤ℤ n → b ≤ℤ n → later a b ≤ℤ n
later_from a b n h k = grind (arith, ints)

earlier_both : (a : Option ℤ) (b n : ℤ) → n ≤ℤ earlier_end a b → IsUpTo n a × (n ≤ℤ b)
earlier_both None b n h = (tt, h)
earlier_both (Some a) b n h = both a b n h where
  both : (a b n : ℤ) → n ≤ℤ earlier_end (Some a) b → (n ≤ℤ a) × (n ≤ℤ b)
  both a b n h = grind (arith, ints)

earlier_from : (a : Option ℤ) (b n : ℤ) → IsUpTo n a → n ≤ℤ b → n ≤ℤ earlier_end a b
earlier_from None b n h k = k
earlier_from (Some a) b n h k = from a b n h k where
  from : (a b n : ℤ) → n ≤ℤ a → n ≤ℤ b → n ≤ℤ earlier_end (Some a) b
  from a b n h k = grind (arith, ints)

where_kept : (s : Span) (a b : Bool) (d n : ℤ) → IsInSpan (kept_where s a b d) n → IsInSpan s n × ((d +ℤ part_of_n a n) ≤ℤ part_of_n b n)
where_kept s false false d n h =
    elim (cases_Bool (int_le d (pos 0))) [
      | inl y ↦ (subst (λ t. IsInSpan (if t then s else nowhere) n) y h, plus d (le_true d (pos 0) y))
      | inr z ↦ absurd (nowhere_none n (subst (λ t. IsInSpan (if t then s else nowhere) n) z h))
    ] where
      plus : (d : ℤ) → d ≤ℤ pos 0 → (d +ℤ pos 0) ≤ℤ pos 0
      plus d h = omega (arith, ints)
where_kept s true true d n h =
    elim (cases_Bool (int_le d (pos 0))) [
      | inl y ↦ (subst (λ t. IsInSpan (if t then s else nowhere) n) y h, plus d n (le_true d (pos 0) y))
      | inr z ↦ absurd (nowhere_none n (subst (λ t. IsInSpan (if t then s else nowhere) n) z h))
    ] where
      plus : (d n : ℤ) → d ≤ℤ pos 0 → (d +ℤ n) ≤ℤ n
      plus d n h = omega (arith, ints)
where_kept s false true d n h =
    let b = later_both s.from d n h.low in
    (record { low = b.0; high = h.high }, plus d n b.1) where
      plus : (d n : ℤ) → d ≤ℤ n → (d +ℤ pos 0) ≤ℤ n
      plus d n h = omega (arith, ints)
where_kept s true false d n h =
    let b = earlier_both s.until (pos 0 -ℤ d) n h.high in
    (record { low = h.low; high = b.0 }, plus d n b.1) where
      plus : (d n : ℤ) → n ≤ℤ (pos 0 -ℤ d) → (d +ℤ n) ≤ℤ pos 0
      plus d n h = omega (arith, ints)

kept_from : (s : Span) (a b : Bool) (d n : ℤ) → IsInSpan s n → (d +ℤ part_of_n a n) ≤ℤ part_of_n b n → IsInSpan (kept_where s a b d) n
kept_from s false false d n h k =
    elim (cases_Bool (int_le d (pos 0))) [
      | inl y ↦ subst (λ t. IsInSpan (if t then s else nowhere) n) (sym y) h
      | inr z ↦ absurd (no' d (le_false d (pos 0) z) k)
    ] where
      no' : (d : ℤ) → pos 0 <ℤ d → (d +ℤ pos 0) ≤ℤ pos 0 → ⊥
      no' d h k = omega (arith, ints)
kept_from s true true d n h k =
    elim (cases_Bool (int_le d (pos 0))) [
      | inl y ↦ subst (λ t. IsInSpan (if t then s else nowhere) n) (sym y) h
      | inr z ↦ absurd (no' d n (le_false d (pos 0) z) k)
    ] where
      no' : (d n : ℤ) → pos 0 <ℤ d → (d +ℤ n) ≤ℤ n → ⊥
      no' d n h k = omega (arith, ints)
kept_from s false true d n h k = record { low = later_from s.from d n h.low (minus d n k); high = h.high } where
  minus : (d n : ℤ) → (d +ℤ pos 0) ≤ℤ n → d ≤ℤ n
  minus d n h = omega (arith, ints)
kept_from s true false d n h k = record { low = h.low; high = earlier_from s.until (pos 0 -ℤ d) n h.high (minus d n k) } where
  minus : (d n : ℤ) → (d +ℤ n) ≤ℤ pos 0 → n ≤ℤ (pos 0 -ℤ d)
  minus d n h = omega (arith, ints)

over_gap : (a b x y : ℤ) → ((a -ℤ b) +ℤ x) ≤ℤ y → (a +ℤ x) ≤ℤ (b +ℤ y)
over_gap a b x y h = omega (arith, ints)

gap_over : (a b x y : ℤ) → (a +ℤ x) ≤ℤ (b +ℤ y) → ((a -ℤ b) +ℤ x) ≤ℤ y
gap_over a b x y h = omega (arith, ints)

over_wide : (a b x y : ℤ) → ((a -ℤ b +ℤ pos 1) +ℤ x) ≤ℤ y → (a +ℤ x) <ℤ (b +ℤ y)
over_wide a b x y h = omega (arith, ints)

wide_over : (a b x y : ℤ) → (a +ℤ x) <ℤ (b +ℤ y) → ((a -ℤ b +ℤ pos 1) +ℤ x) ≤ℤ y
wide_over a b x y h = omega (arith, ints)

pub at_most_gives : (s : Span) (a b : Line) (n : ℤ) → IsInSpan (at_most s a b) n → IsInSpan s n × (value_at a n ≤ℤ value_at b n)
at_most_gives s a b n h =
    let t = where_kept s a.moves b.moves (a.off -ℤ b.off) n h in
    (t.0, over_gap a.off b.off (part_of_n a.moves n) (part_of_n b.moves n) t.1)

pub gives_at_most : (s : Span) (a b : Line) (n : ℤ) → IsInSpan s n → value_at a n ≤ℤ value_at b n → IsInSpan (at_most s a b) n
gives_at_most s a b n h k = kept_from s a.moves b.moves (a.off -ℤ b.off) n h (gap_over a.off b.off (part_of_n a.moves n) (part_of_n b.moves n) k)

pub below_gives : (s : Span) (a b : Line) (n : ℤ) → IsInSpan (below s a b) n → IsInSpan s n × (value_at a n <ℤ value_at b n)
below_gives s a b n h =
    let t = where_kept s a.moves b.moves (a.off -ℤ b.off +ℤ pos 1) n h in
    (t.0, over_wide a.off b.off (part_of_n a.moves n) (part_of_n b.moves n) t.1)

pub gives_below : (s : Span) (a b : Line) (n : ℤ) → IsInSpan s n → value_at a n <ℤ value_at b n → IsInSpan (below s a b) n
gives_below s a b n h k = kept_from s a.moves b.moves (a.off -ℤ b.off +ℤ pos 1) n h (wide_over a.off b.off (part_of_n a.moves n) (part_of_n b.moves n) k)

up_to : (n : ℤ) (high : Option ℕ) → IsUpTo n (number_if high) → V.IsUpTo n high
up_to n None h = tt
up_to n (Some u) h = h

to_up : (n : ℤ) (high : Option ℕ) → V.IsUpTo n high → IsUpTo n (number_if high)
to_up n None h = tt
to_up n (Some u) h = h

pub whole_gives : (r : NRange) (n : ℤ) → IsInSpan (whole r) n → IsIn r n
whole_gives r n h = record { low = h.low; high = up_to n r.high h.high }

pub gives_whole : (r : NRange) (n : ℤ) → IsIn r n → IsInSpan (whole r) n
gives_whole r n h = record { low = h.low; high = to_up n r.high h.high }

-- ---- lines

base_part : (b : Base) (n : ℤ) → base_value b n (pos 0) ≡ part_of_n (moves b) n
base_part Fixed n = refl
base_part Param n = refl
base_part Var n = refl

pub value_line : (l : Lin) (n : ℤ) → value l n (pos 0) ≡ value_at (line_of l) n
value_line l n = ap (λ x. l.off +ℤ x) (base_part l.base n)

-- ---- foreaches

-- the variable has a value
abbrev pub IsLive : Option Bounds → ℤ → Type 0
IsLive None n = Unit {0}
IsLive (Some o) n = value_at (line_of o.low) n ≤ℤ value_at (line_of o.high) n

pub alive_gives : (r : NRange) (over : Option Bounds) (n : ℤ) → IsInSpan (alive r over) n → IsIn r n × IsLive over n
alive_gives r None n h = (whole_gives r n h, tt)
alive_gives r (Some o) n h = let t = at_most_gives (whole r) (line_of o.low) (line_of o.high) n h in (whole_gives r n t.0, t.1)

pub gives_alive : (r : NRange) (over : Option Bounds) (n : ℤ) → IsIn r n → IsLive over n → IsInSpan (alive r over) n
gives_alive r None n h k = gives_whole r n h
gives_alive r (Some o) n h k = gives_at_most (whole r) (line_of o.low) (line_of o.high) n (gives_whole r n h) k

two_lines : (o : Bounds) (n x : ℤ) → IsValue (Some o) n x → (value_at (line_of o.low) n ≤ℤ x) × (x ≤ℤ value_at (line_of o.high) n)
two_lines o n x v =
    let t = in_range (value o.low n (pos 0)) (value o.high n (pos 0)) x v in
    (subst (λ y. y ≤ℤ x) (value_line o.low n) t.0, subst (λ y. x ≤ℤ y) (value_line o.high n) t.1)

lines_two : (o : Bounds) (n x : ℤ) → value_at (line_of o.low) n ≤ℤ x → x ≤ℤ value_at (line_of o.high) n → IsValue (Some o) n x
lines_two o n x h k =
    range_has (value o.low n (pos 0)) (value o.high n (pos 0)) x (subst (λ y. y ≤ℤ x) (sym (value_line o.low n)) h) (subst (λ y. x ≤ℤ y) (sym (value_line o.high n)) k)

int_trans : (a b c : ℤ) → a ≤ℤ b → b ≤ℤ c → a ≤ℤ c
int_trans a b c h k = omega (arith, ints)

int_self : (a : ℤ) → a ≤ℤ a
int_self a = omega (arith, ints)

pub value_live : (over : Option Bounds) (n x : ℤ) → IsValue over n x → IsLive over n
value_live None n x v = tt
value_live (Some o) n x v = let t = two_lines o n x v in int_trans (value_at (line_of o.low) n) x (value_at (line_of o.high) n) t.0 t.1

-- ---- where an end reaches

-- between the two lines at n
pub record IsWithin (r : Reach) (n y : ℤ) : Type 0 where
  pub first : value_at r.first n ≤ℤ y
  pub last : y ≤ℤ value_at r.last n

at_zero : (c x : ℤ) → x ≡ pos 0 → ((c +ℤ pos 0) ≤ℤ (c +ℤ x)) × ((c +ℤ x) ≤ℤ (c +ℤ pos 0))
at_zero c x e = (omega (arith, ints), omega (arith, ints))

moved_up : (low c p x : ℤ) → (low +ℤ p) ≤ℤ x → (low +ℤ c +ℤ p) ≤ℤ (c +ℤ x)
moved_up low c p x h = omega (arith, ints)

moved_down : (high c p x : ℤ) → x ≤ℤ (high +ℤ p) → (c +ℤ x) ≤ℤ (high +ℤ c +ℤ p)
moved_down high c p x h = omega (arith, ints)

within_in : (over : Option Bounds) (b : Base) (c n x : ℤ) → IsValue over n x → IsWithin (reach_in over b c) n (c +ℤ base_value b n x)
within_in None Fixed c n x v = record { first = int_self (c +ℤ pos 0); last = int_self (c +ℤ pos 0) }
within_in None Param c n x v = record { first = int_self (c +ℤ n); last = int_self (c +ℤ n) }
within_in None Var c n x v = let t = at_zero c x v in record { first = t.0; last = t.1 }
within_in (Some o) Fixed c n x v = record { first = int_self (c +ℤ pos 0); last = int_self (c +ℤ pos 0) }
within_in (Some o) Param c n x v = record { first = int_self (c +ℤ n); last = int_self (c +ℤ n) }
within_in (Some o) Var c n x v =
    let t = two_lines o n x v in
    record { first = moved_up o.low.off c (part_of_n (moves o.low.base) n) x t.0; last = moved_down o.high.off c (part_of_n (moves o.high.base) n) x t.1 }

pub within : (over : Option Bounds) (l : Lin) (n x : ℤ) → IsValue over n x → IsWithin (reach over l) n (value l n x)
within over l n x v = within_in over l.base l.off n x v

-- the variable's value for an index
pub record IsAsked (over : Option Bounds) (l : Lin) (n y : ℤ) : Type 0 where
  pub x : ℤ
  pub value_is : IsValue over n x
  pub index : value l n x ≡ y

record IsAskedBy (over : Option Bounds) (b : Base) (c n y : ℤ) : Type 0 where
  x : ℤ
  value_is : IsValue over n x
  index : c +ℤ base_value b n x ≡ y

only_one : (a y : ℤ) → a ≤ℤ y → y ≤ℤ a → a ≡ y
only_one a y h k = omega (arith, ints)

take_off : (c y : ℤ) → c +ℤ (y -ℤ c) ≡ y
take_off c y = omega (arith, ints)

off_low : (low c p y : ℤ) → (low +ℤ c +ℤ p) ≤ℤ y → (low +ℤ p) ≤ℤ (y -ℤ c)
off_low low c p y h = omega (arith, ints)

off_high : (high c p y : ℤ) → y ≤ℤ (high +ℤ c +ℤ p) → (y -ℤ c) ≤ℤ (high +ℤ p)
off_high high c p y h = omega (arith, ints)

asked_in : (over : Option Bounds) (b : Base) (c n y : ℤ) → IsLive over n → IsWithin (reach_in over b c) n y → IsAskedBy over b c n y
asked_in None Fixed c n y live w = record { x = pos 0; value_is = refl; index = only_one (c +ℤ pos 0) y w.first w.last }
asked_in None Param c n y live w = record { x = pos 0; value_is = refl; index = only_one (c +ℤ n) y w.first w.last }
asked_in None Var c n y live w = record { x = pos 0; value_is = refl; index = only_one (c +ℤ pos 0) y w.first w.last }
asked_in (Some o) Fixed c n y live w = record { x = value_at (line_of o.low) n; value_is = lines_two o n (value_at (line_of o.low) n) (int_self (value_at (line_of o.low) n)) live; index = only_one (c +ℤ pos 0) y w.first w.last }
asked_in (Some o) Param c n y live w = record { x = value_at (line_of o.low) n; value_is = lines_two o n (value_at (line_of o.low) n) (int_self (value_at (line_of o.low) n)) live; index = only_one (c +ℤ n) y w.first w.last }
asked_in (Some o) Var c n y live w = record {
  x = y -ℤ c;
  value_is = lines_two o n (y -ℤ c) (off_low o.low.off c (part_of_n (moves o.low.base) n) y w.first) (off_high o.high.off c (part_of_n (moves o.high.base) n) y w.last);
  index = take_off c y;
}

pub asked_for : (over : Option Bounds) (l : Lin) (n y : ℤ) → IsLive over n → IsWithin (reach over l) n y → IsAsked over l n y
asked_for over l n y live w = let t = asked_in over l.base l.off n y live w in record { x = t.x; value_is = t.value_is; index = t.index }

-- ---- ends that don't vary, and the first value of ends that do

pub stays : (over : Option Bounds) (l : Lin) → (reach over l).varies ≡ false → (reach over l).last ≡ (reach over l).first
stays over l e = stay over l.base l.off e where
  stay : (over : Option Bounds) (b : Base) (c : ℤ) → (reach_in over b c).varies ≡ false → (reach_in over b c).last ≡ (reach_in over b c).first
  stay None Fixed c e = refl
  stay None Param c e = refl
  stay None Var c e = refl
  stay (Some o) Fixed c e = refl
  stay (Some o) Param c e = refl
  stay (Some o) Var c e = absurd (true≢false e)

-- a value of the variable at which each end that varies has its first index
pub record HasFirst (over : Option Bounds) (n : ℤ) : Type 0 where
  pub x : ℤ
  pub value_is : IsValue over n x
  pub first : (l : Lin) → (reach over l).varies ≡ true → value l n x ≡ value_at (reach over l).first n

pub has_first : (over : Option Bounds) (n : ℤ) → IsLive over n → HasFirst over n
has_first None n live = record { x = pos 0; value_is = refl; first = λ l e. absurd (fixed l.base l.off e) } where
  fixed : (b : Base) (c : ℤ) → (reach_in None b c).varies ≡ true → ⊥
  fixed Fixed c e = true≢false (sym e)
  fixed Param c e = true≢false (sym e)
  fixed Var c e = true≢false (sym e)
has_first (Some o) n live = record {
  x = value_at (line_of o.low) n;
  value_is = lines_two o n (value_at (line_of o.low) n) (int_self (value_at (line_of o.low) n)) live;
  first = λ l e. moving l.base l.off e;
} where
  swap : (low c p : ℤ) → c +ℤ (low +ℤ p) ≡ low +ℤ c +ℤ p
  swap low c p = omega (arith, ints)

  moving : (b : Base) (c : ℤ) → (reach_in (Some o) b c).varies ≡ true → c +ℤ base_value b n (value_at (line_of o.low) n) ≡ value_at (reach_in (Some o) b c).first n
  moving Fixed c e = absurd (true≢false (sym e))
  moving Param c e = absurd (true≢false (sym e))
  moving Var c e = swap o.low.off c (part_of_n (moves o.low.base) n)

pub first_within : (over : Option Bounds) (l : Lin) (n : ℤ) → IsLive over n → IsWithin (reach over l) n (value_at (reach over l).first n)
first_within over l n live =
    let x = has_first over n live in
    let w = within over l n x.x x.value_is in
    record { first = int_self (value_at (reach over l).first n); last = int_trans (value_at (reach over l).first n) (value l n x.x) (value_at (reach over l).last n) w.first w.last }

pub vary_value : (over : Option Bounds) (l : Lin) (n x : ℤ) → (reach over l).varies ≡ true → value l n x ≡ l.off +ℤ x
vary_value over l n x e = vary over l.base l.off e where
  vary : (over : Option Bounds) (b : Base) (c : ℤ) → (reach_in over b c).varies ≡ true → c +ℤ base_value b n x ≡ c +ℤ x
  vary None Fixed c e = absurd (true≢false (sym e))
  vary None Param c e = absurd (true≢false (sym e))
  vary None Var c e = absurd (true≢false (sym e))
  vary (Some o) Fixed c e = absurd (true≢false (sym e))
  vary (Some o) Param c e = absurd (true≢false (sym e))
  vary (Some o) Var c e = refl
