-- Lines that a builder goes on with.
use Rattle.std.proofs.Common.{◌≡◌, ℤ, pos, ◌+ℤ◌, ◌≤ℤ◌, ◌<ℤ◌, true, false, Bool, if◌then◌else◌, List, refl, sym, ap, ◌∙◌, subst, arith}
use Rattle.std.specs.Int.{int_min}
use Rattle.std.proofs.lemmas.Int.{ints, clamps}
use Rattle.pb_cost_pieces.specs.declared.join.Join.{Join}
use Rattle.pb_cost_pieces.specs.declared.join.Join.TheVariants.{Sum}
use Rattle.pb_cost_pieces.specs.declared.ray.Ray.{Ray}
use Rattle.pb_cost_pieces.specs.declared.stretch.Stretch.{Stretch}
use Rattle.pb_cost_pieces.specs.declared.switch.Switch.{Switch}
use Rattle.pb_cost_pieces.specs.Lines.{along, value_at, joined, IsStep, IsTame}
use Rattle.pb_cost_pieces.specs.Joined.{ray_at, lasts_to, switched, both}
use Rattle.pb_cost_pieces.specs.Switches.{IsSwitch}
use Rattle.pb_cost_pieces.specs.Building.{Adds}
use Rattle.pb_cost_pieces.proofs.Lines.{along_here, along_anew}
use Rattle.pb_cost_pieces.proofs.Extend.{adds_as, adds_both}
use Rattle.pb_cost_pieces.proofs.Switching.{tame_part, sum_is}
use Rattle.pb_cost_joins.specs.declared.span.Span.{Span}
use Rattle.pb_cost_joins.specs.Adding.{steep, tall, GoesOn, Added, Continues, both_at, first_end, IsKept}

le_same : (x : ℤ) → x ≤ℤ x
le_same x = omega (arith, ints)

weaker : (a b : ℤ) → a <ℤ b → a ≤ℤ b
weaker a b h = omega (arith, ints, h)

at_le : (x y z : ℤ) → x ≡ y → x ≤ℤ z → y ≤ℤ z
at_le x y z e h = omega (arith, ints, e, h)

le_at : (x y z : ℤ) → x ≤ℤ y → y ≡ z → x ≤ℤ z
le_at x y z h e = omega (arith, ints, h, e)

le_through : (x y z : ℤ) → x ≤ℤ y → y ≤ℤ z → x ≤ℤ z
le_through x y z h k = omega (arith, ints, h, k)

next_of : (m x n : ℤ) → x ≡ m +ℤ pos 1 → m <ℤ n → x ≤ℤ n
next_of m x n e h = omega (arith, ints, e, h)

before_next : (m x n : ℤ) → x ≡ m +ℤ pos 1 → x ≤ℤ n → m <ℤ n
before_next m x n e h = omega (arith, ints, e, h)

-- ---- a function that is the same there

pub goes_as : (g h : ℤ → ℤ) (latest : Stretch) (span : Span) → ((n : ℤ) → span.from ≤ℤ n → n ≤ℤ span.to → h n ≡ g n) → GoesOn g latest span → GoesOn h latest span
goes_as g h latest span same is = record {
  next = is.next;
  step = subst (λ v. IsStep steep (value_at latest latest.to) v) (sym (same span.from (le_same span.from) span.to_low)) is.step;
  tame = tame_part steep tall g h span.from span.to span.from span.to (le_same span.from) (le_same span.to) same is.tame;
}

pub added_as : (g h : ℤ → ℤ) (to : ℤ) (done : List Stretch) (latest : Stretch) (longer : List Stretch) (later : Stretch) → ((n : ℤ) → latest.to <ℤ n → n ≤ℤ to → h n ≡ g n) → Added g to done latest longer later → Added h to done latest longer later
added_as g h to done latest longer later same added = record {
  ends = added.ends;
  adds = adds_as g h done latest longer later (λ n gt le. same n gt (le_at n later.to to le added.ends)) added.adds;
}

both_ways : (a b : ℤ) → a ≤ℤ b → b ≤ℤ a → a ≡ b
both_ways a b h k = omega (arith, ints, h, k)

min_above : (x a b : ℤ) → x ≤ℤ a → x ≤ℤ b → x ≤ℤ int_min a b
min_above x a b h k = omega (arith, ints, clamps, h, k)

-- nothing more
pub added_none : (g : ℤ → ℤ) (to : ℤ) (done : List Stretch) (latest : Stretch) → latest.to ≡ to → Added g to done latest done latest
added_none g to done latest e = record { ends = e; adds = record { so_far = λ f from is so_far. so_far } }

-- ---- two stretches

ray_same : (s : Stretch) (a : Ray) (x n : ℤ) → a.start ≡ value_at s x → a.slope ≡ s.slope → ray_at a x n ≡ value_at s n
ray_same s a x n start slope = ap (λ v. along v a.slope x n) start ∙ ap (λ v. along (value_at s x) v x n) slope ∙ along_anew s.start s.slope s.from x n

pub lines_same : (join : Join) (s t : Stretch) (a b : Ray) (x n : ℤ) → a.start ≡ value_at s x → a.slope ≡ s.slope → b.start ≡ value_at t x → b.slope ≡ t.slope → both join x a b n ≡ both_at join s t n
lines_same join s t a b x n a_start a_slope b_start b_slope =
    ap (λ v. joined join v (ray_at b x n)) (ray_same s a x n a_start a_slope) ∙ ap (λ v. joined join (value_at s n) v) (ray_same t b x n b_start b_slope)

module _ (join : Join) (s t latest : Stretch) (span : Span) (is : Continues join latest s t) (next : span.from ≡ latest.to +ℤ pos 1) (to : span.to ≡ first_end s t) where
  in_it : (P : ℤ → ℤ → Type 0) → P (latest.to +ℤ pos 1) (first_end s t) → P span.from span.to
  in_it P p = subst (λ x. P x span.to) (sym next) (subst (λ y. P (latest.to +ℤ pos 1) y) (sym to) p)

  pub s_low : s.from ≤ℤ span.from
  s_low = le_at s.from (latest.to +ℤ pos 1) span.from is.s_from (sym next)

  pub t_low : t.from ≤ℤ span.from
  t_low = le_at t.from (latest.to +ℤ pos 1) span.from is.t_from (sym next)

  s_tame : IsTame steep tall (value_at s) span.from span.to
  s_tame = in_it (λ x y. IsTame steep tall (value_at s) x y) is.s_tame

  t_tame : IsTame steep tall (value_at t) span.from span.to
  t_tame = in_it (λ x y. IsTame steep tall (value_at t) x y) is.t_tame

  pub s_least : pos 0 ≤ℤ value_at s span.from
  s_least = s_tame.least span.from (le_same span.from) span.to_low

  pub s_most : value_at s span.from ≤ℤ tall
  s_most = s_tame.most span.from (le_same span.from) span.to_low

  pub t_least : pos 0 ≤ℤ value_at t span.from
  t_least = t_tame.least span.from (le_same span.from) span.to_low

  pub t_most : value_at t span.from ≤ℤ tall
  t_most = t_tame.most span.from (le_same span.from) span.to_low

  more : latest.to <ℤ first_end s t
  more = less_at latest.to span.from span.to (first_end s t) next span.to_low to where
    less_at : (m x y z : ℤ) → x ≡ m +ℤ pos 1 → x ≤ℤ y → y ≡ z → m <ℤ z
    less_at m x y z e h f = omega (arith, ints, e, h, f)

  pub lines_go : (a b : Ray) → a.start ≡ value_at s span.from → a.slope ≡ s.slope → b.start ≡ value_at t span.from → b.slope ≡ t.slope → GoesOn (both join span.from a b) latest span
  lines_go a b a_start a_slope b_start b_slope = goes_as (both_at join s t) (both join span.from a b) latest span (λ n low high. lines_same join s t a b span.from n a_start a_slope b_start b_slope) (record {
    next = next;
    step = subst (λ x. IsStep steep (value_at latest latest.to) (both_at join s t x)) (sym next) (is.step more);
    tame = in_it (λ x y. IsTame steep tall (both_at join s t) x y) is.tame;
  })

  pub lines_added : (a b : Ray) (done longer : List Stretch) (later : Stretch) → a.start ≡ value_at s span.from → a.slope ≡ s.slope → b.start ≡ value_at t span.from → b.slope ≡ t.slope → Added (both join span.from a b) span.to done latest longer later →
      Added (both_at join s t) (first_end s t) done latest longer later
  lines_added a b done longer later a_start a_slope b_start b_slope added = subst (λ y. Added (both_at join s t) y done latest longer later) to
      (added_as (both join span.from a b) (both_at join s t) span.to done latest longer later (λ n gt le. sym (lines_same join s t a b span.from n a_start a_slope b_start b_slope)) added)

-- ---- a switch

by_true : (c : Bool) (a b : ℤ) → c ≡ true → (if c then a else b) ≡ a
by_true c a b e = ap (λ d. if d then a else b) e

by_false : (c : Bool) (a b : ℤ) → c ≡ false → (if c then a else b) ≡ b
by_false c a b e = ap (λ d. if d then a else b) e

module _ (s : Switch) (latest : Stretch) (span part : Span) (kept : IsKept s.steps span part) where
  kept_on : (n : ℤ) → span.from ≤ℤ n → n ≤ℤ part.to → switched s.steps span.from s.kept s.other n ≡ ray_at s.kept part.from n
  kept_on n low high = by_true (lasts_to s.steps span.from n) (ray_at s.kept span.from n) (ray_at s.other span.from n) (kept.kept n low high) ∙ ap (λ y. ray_at s.kept y n) (sym kept.from)

  other_on : (n : ℤ) → part.to <ℤ n → n ≤ℤ span.to → switched s.steps span.from s.kept s.other n ≡ ray_at s.other span.from n
  other_on n low high = by_false (lasts_to s.steps span.from n) (ray_at s.kept span.from n) (ray_at s.other span.from n) (kept.other n low high)

  from_part : (n : ℤ) → part.from ≤ℤ n → span.from ≤ℤ n
  from_part n h = at_le part.from span.from n kept.from h

  pub kept_goes : GoesOn (switched s.steps span.from s.kept s.other) latest span → GoesOn (ray_at s.kept part.from) latest part
  kept_goes is = goes_as (switched s.steps span.from s.kept s.other) (ray_at s.kept part.from) latest part (λ n low high. sym (kept_on n (from_part n low) high)) (record {
    next = kept.from ∙ is.next;
    step = subst (λ y. IsStep steep (value_at latest latest.to) (switched s.steps span.from s.kept s.other y)) (sym kept.from) is.step;
    tame = tame_part steep tall (switched s.steps span.from s.kept s.other) (switched s.steps span.from s.kept s.other) span.from span.to part.from part.to (from_part part.from (le_same part.from)) kept.within (λ n h k. refl) is.tame;
  })

  kept_here : (next : span.from ≡ latest.to +ℤ pos 1) (n : ℤ) → latest.to <ℤ n → n ≤ℤ part.to → switched s.steps span.from s.kept s.other n ≡ ray_at s.kept part.from n
  kept_here next n gt le = kept_on n (next_of latest.to span.from n next gt) le

  -- the whole, where the first line reaches its end
  pub kept_added : (done longer : List Stretch) (later : Stretch) → span.to ≤ℤ part.to → GoesOn (switched s.steps span.from s.kept s.other) latest span → Added (ray_at s.kept part.from) part.to done latest longer later → Added (switched s.steps span.from s.kept s.other) span.to done latest longer later
  kept_added done longer later ended is added = subst (λ y. Added (switched s.steps span.from s.kept s.other) y done latest longer later) (both_ways part.to span.to kept.within ended)
      (added_as (ray_at s.kept part.from) (switched s.steps span.from s.kept s.other) part.to done latest longer later (kept_here is.next) added)

  -- the other line, behind it
  module _ (rest : Span) (rest_from : rest.from ≡ part.to +ℤ pos 1) (rest_to : rest.to ≡ span.to) where
    in_rest : rest.from ≤ℤ span.to
    in_rest = le_at rest.from rest.to span.to rest.to_low rest_to

    behind_part : (n : ℤ) → rest.from ≤ℤ n → part.to <ℤ n
    behind_part n h = before_next part.to rest.from n rest_from h

    pub rest_order : span.from ≤ℤ rest.from
    rest_order = ordered part.to part.from span.from rest.from part.to_low kept.from rest_from where
      ordered : (p q x y : ℤ) → q ≤ℤ p → q ≡ x → y ≡ p +ℤ pos 1 → x ≤ℤ y
      ordered p q x y h e f = omega (arith, ints, h, e, f)

    first_on : switched s.steps span.from s.kept s.other rest.from ≡ ray_at s.other span.from rest.from
    first_on = other_on rest.from (behind_part rest.from (le_same rest.from)) in_rest

    pub other_low : GoesOn (switched s.steps span.from s.kept s.other) latest span → pos 0 ≤ℤ ray_at s.other span.from rest.from
    other_low is = subst (λ v. pos 0 ≤ℤ v) first_on (is.tame.least rest.from rest_order in_rest)

    pub other_high : GoesOn (switched s.steps span.from s.kept s.other) latest span → ray_at s.other span.from rest.from ≤ℤ tall
    other_high is = subst (λ v. v ≤ℤ tall) first_on (is.tame.most rest.from rest_order in_rest)

    module _ (ray : Ray) (start : ray.start ≡ ray_at s.other span.from rest.from) (slope : ray.slope ≡ s.other.slope) where
      line_same : (n : ℤ) → ray_at ray rest.from n ≡ ray_at s.other span.from n
      line_same n = ap (λ v. along v ray.slope rest.from n) start ∙ ap (λ v. along (ray_at s.other span.from rest.from) v rest.from n) slope ∙ along_anew s.other.start s.other.slope span.from rest.from n

      rest_same : (n : ℤ) → rest.from ≤ℤ n → n ≤ℤ rest.to → ray_at ray rest.from n ≡ switched s.steps span.from s.kept s.other n
      rest_same n low high = line_same n ∙ sym (other_on n (behind_part n low) (le_at n rest.to span.to high rest_to))

      pub other_goes : (mid : Stretch) → mid.to ≡ part.to → value_at mid mid.to ≡ ray_at s.kept part.from part.to → GoesOn (switched s.steps span.from s.kept s.other) latest span → GoesOn (ray_at ray rest.from) mid rest
      other_goes mid mid_to value is = goes_as (switched s.steps span.from s.kept s.other) (ray_at ray rest.from) mid rest rest_same (record {
        next = rest_from ∙ ap (λ y. y +ℤ pos 1) (sym mid_to);
        step = subst (λ v. IsStep steep v (switched s.steps span.from s.kept s.other rest.from)) (kept_on part.to (at_le part.from span.from part.to kept.from part.to_low) (le_same part.to) ∙ sym value)
            (subst (λ y. IsStep steep (switched s.steps span.from s.kept s.other part.to) (switched s.steps span.from s.kept s.other y)) (sym rest_from)
            (is.tame.steps part.to (at_le part.from span.from part.to kept.from part.to_low) (before_next part.to rest.from span.to rest_from in_rest)));
        tame = tame_part steep tall (switched s.steps span.from s.kept s.other) (switched s.steps span.from s.kept s.other) span.from span.to rest.from rest.to rest_order (le_at rest.to rest.to span.to (le_same rest.to) rest_to) (λ n h k. refl) is.tame;
      })

      pub both_added : (done longer : List Stretch) (mid : Stretch) (longest : List Stretch) (later : Stretch) → GoesOn (switched s.steps span.from s.kept s.other) latest span → Added (ray_at s.kept part.from) part.to done latest longer mid → Added (ray_at ray rest.from) rest.to longer mid longest later →
          Added (switched s.steps span.from s.kept s.other) span.to done latest longest later
      both_added done longer mid longest later is one two = record {
        ends = two.ends ∙ rest_to;
        adds = adds_both (switched s.steps span.from s.kept s.other) done latest longer mid longest later
            (first_order latest.to span.from part.from part.to mid.to is.next kept.from part.to_low one.ends) (then_order part.to rest.from rest.to mid.to later.to rest_from rest.to_low one.ends two.ends)
            (added_as (ray_at s.kept part.from) (switched s.steps span.from s.kept s.other) part.to done latest longer mid (kept_here is.next) one).adds
            (added_as (ray_at ray rest.from) (switched s.steps span.from s.kept s.other) rest.to longer mid longest later
            (λ n gt le. sym (rest_same n (next_at part.to mid.to rest.from n one.ends rest_from gt) le)) two).adds;
      } where
        first_order : (m x q p d : ℤ) → x ≡ m +ℤ pos 1 → q ≡ x → q ≤ℤ p → d ≡ p → m ≤ℤ d
        first_order m x q p d e f h g = omega (arith, ints, e, f, h, g)

        then_order : (p x y d l : ℤ) → x ≡ p +ℤ pos 1 → x ≤ℤ y → d ≡ p → l ≡ y → d ≤ℤ l
        then_order p x y d l e h f g = omega (arith, ints, e, h, f, g)

        next_at : (p d x n : ℤ) → d ≡ p → x ≡ p +ℤ pos 1 → d <ℤ n → x ≤ℤ n
        next_at p d x n e f h = omega (arith, ints, e, f, h)

-- ---- which line of two

pub switch_goes : (join : Join) (a b : Ray) (s : Switch) (latest : Stretch) (span : Span) → IsSwitch join a b s → GoesOn (both join span.from a b) latest span → GoesOn (switched s.steps span.from s.kept s.other) latest span
switch_goes join a b s latest span is goes = goes_as (both join span.from a b) (switched s.steps span.from s.kept s.other) latest span (λ n low high. sym (is.is span.from n low)) goes

pub switch_added : (join : Join) (a b : Ray) (s : Switch) (span : Span) (done : List Stretch) (latest : Stretch) (longer : List Stretch) (later : Stretch) → IsSwitch join a b s → GoesOn (both join span.from a b) latest span → Added (switched s.steps span.from s.kept s.other) span.to done latest longer later → Added (both join span.from a b) span.to done latest longer later
switch_added join a b s span done latest longer later is goes added = added_as (switched s.steps span.from s.kept s.other) (both join span.from a b) span.to done latest longer later (λ n gt le. is.is span.from n (next_of latest.to span.from n goes.next gt)) added

-- ---- one line

-- what a builder asks of a line, and what it gives
module _ (start slope : ℤ) (latest : Stretch) (span : Span) (is : GoesOn (along start slope span.from) latest span) where
  pub line_more : latest.to <ℤ span.to
  line_more = before_next latest.to span.from span.to is.next span.to_low

  pub line_step : IsStep steep (value_at latest latest.to) start
  line_step = subst (λ v. IsStep steep (value_at latest latest.to) v) (along_here start slope span.from) is.step

  pub line_tame : IsTame steep tall (along start slope (latest.to +ℤ pos 1)) (latest.to +ℤ pos 1) span.to
  line_tame = subst (λ x. IsTame steep tall (along start slope x) x span.to) is.next is.tame

  pub line_added : (done longer : List Stretch) (later : Stretch) → later.to ≡ span.to → Adds (along start slope (latest.to +ℤ pos 1)) done latest longer later → Added (along start slope span.from) span.to done latest longer later
  line_added done longer later to adds = record { ends = to; adds = subst (λ x. Adds (along start slope x) done latest longer later) (sym is.next) adds }

  pub line_last : (later : Stretch) → value_at later later.to ≡ along start slope (latest.to +ℤ pos 1) span.to → value_at later later.to ≡ along start slope span.from span.to
  line_last later e = e ∙ ap (λ x. along start slope x span.to) (sym is.next)

-- the sum of two lines as one
module _ (a b : Ray) (start slope : ℤ) (start_is : start ≡ a.start +ℤ b.start) (slope_is : slope ≡ a.slope +ℤ b.slope) (span : Span) where
  sum_same : (n : ℤ) → both Sum span.from a b n ≡ along start slope span.from n
  sum_same n = sum_is a b span.from n ∙ ap (λ v. along v (a.slope +ℤ b.slope) span.from n) (sym start_is) ∙ ap (λ v. along start v span.from n) (sym slope_is)

  pub sum_goes : (latest : Stretch) → GoesOn (both Sum span.from a b) latest span → GoesOn (along start slope span.from) latest span
  sum_goes latest goes = goes_as (both Sum span.from a b) (along start slope span.from) latest span (λ n low high. sym (sum_same n)) goes

  pub sum_added : (done : List Stretch) (latest : Stretch) (longer : List Stretch) (later : Stretch) → Added (along start slope span.from) span.to done latest longer later → Added (both Sum span.from a b) span.to done latest longer later
  sum_added done latest longer later added = added_as (along start slope span.from) (both Sum span.from a b) span.to done latest longer later (λ n gt le. sum_same n) added

-- ---- where a stretch has ended

-- neither has a number behind the latest one
pub part_ended : (join : Join) (done : List Stretch) (latest s t : Stretch) → Continues join latest s t → first_end s t ≤ℤ latest.to → Added (both_at join s t) (first_end s t) done latest done latest
part_ended join done latest s t is ended = added_none (both_at join s t) (first_end s t) done latest (both_ways latest.to (first_end s t) (min_above latest.to s.to t.to is.s_to is.t_to) ended)
