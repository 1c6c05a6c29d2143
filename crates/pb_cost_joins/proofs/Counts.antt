-- Counts: what a list of stretches says, and the counts from which others are made.
use Rattle.std.proofs.Common.{◌≡◌, ◌<◌, length, slice_index_or, ℤ, negsuc, pos, ◌+ℤ◌, ◌*ℤ◌, ◌≤ℤ◌, ◌<ℤ◌, int_le, if◌then◌else◌, Bool, true, false, List, [], ◌∷◌, refl, sym, ap, ◌∙◌, subst, arith}
use Rattle.std.specs.Int.{int_max}
use Rattle.std.proofs.lemmas.Int.{ints, clamps}
use Rattle.pb_cost_pieces.specs.declared.join.Join.{Join}
use Rattle.pb_cost_pieces.specs.declared.join.Join.TheVariants.{Most}
use Rattle.pb_cost_pieces.specs.declared.ray.Ray.{Ray}
use Rattle.pb_cost_pieces.specs.declared.stretch.Stretch.{Stretch}
use Rattle.pb_cost_pieces.specs.Lines.{along, value_at, value_in, IsStep, IsTame, AreStretches, final, before, AreSoFar}
use Rattle.pb_cost_pieces.specs.Joined.{ray_at, both}
use Rattle.pb_cost_pieces.proofs.Lines.{along_here, along_next, along_flat, along_anew}
use Rattle.pb_cost_pieces.proofs.Switching.{tame_part}
use Rattle.pb_cost_joins.specs.declared.span.Span.{Span}
use Rattle.pb_cost_joins.specs.Adding.{steep, tall, GoesOn, Added}
use Rattle.pb_cost_joins.specs.Clipped.{clipped, IsBegun, IsClipped, IsMild}
use Rattle.pb_cost_joins.specs.Counts.{IsCount, Says}
use Rattle.pb_cost_joins.specs.declared.count.Count.{Count}
use Rattle.pb_cost_joins.specs.declared.line.Line.{Line}
use Rattle.pb_cost_joins.specs.Merging.{both_in, AreTame, IsRead, IsReading}
use Rattle.pb_cost_joins.proofs.Ahead.{ahead_of}
use Rattle.pb_cost_joins.proofs.GoingOn.{added_as, goes_as}
use Rattle.pb_cost_joins.proofs.Tame.{tame_light, tame_left, tame_right, tame_both}

le_same : (x : ℤ) → x ≤ℤ x
le_same x = omega (arith, ints)

le_next : (x : ℤ) → x ≤ℤ (x +ℤ pos 1)
le_next x = omega (arith, ints)

at_le : (x y z : ℤ) → x ≡ y → x ≤ℤ z → y ≤ℤ z
at_le x y z e h = omega (arith, ints, e, h)

le_at : (x y z : ℤ) → x ≤ℤ y → y ≡ z → x ≤ℤ z
le_at x y z h e = omega (arith, ints, h, e)

le_through : (x y z : ℤ) → x ≤ℤ y → y ≤ℤ z → x ≤ℤ z
le_through x y z h k = omega (arith, ints, h, k)

-- ---- what the stretches say

behind_le : (from s_to last : ℤ) → (s_to +ℤ pos 1) ≤ℤ last → from <ℤ s_to → from ≤ℤ last
behind_le from s_to last h k = omega (arith, ints, h, k)

pub in_order : (f : ℤ → ℤ) (last from : ℤ) (list : List Stretch) → AreStretches f last from list → from ≤ℤ last
in_order f last from [] are = elim are [ ]
in_order f last from (s ∷ []) (final _ _ s_from s_to is) = at_le s.from from last s_from (le_at s.from s.to last is.some s_to)
in_order f last from (s ∷ rest) (before _ _ _ s_from is more) = at_le s.from from last s_from (behind_le s.from s.to last (in_order f last (s.to +ℤ pos 1) rest more) is.long)

by_true : (c : Bool) (a b : ℤ) → c ≡ true → (if c then a else b) ≡ a
by_true c a b e = ap (λ d. if d then a else b) e

by_false : (c : Bool) (a b : ℤ) → c ≡ false → (if c then a else b) ≡ b
by_false c a b e = ap (λ d. if d then a else b) e

le_by : (n m : ℤ) (b : Bool) → int_le n m ≡ b → n ≤ℤ m → int_le n m ≡ true
le_by n m true e h = e
le_by n m false e h = absurd (omega (arith, ints, e, h))

le_is : (n m : ℤ) → n ≤ℤ m → int_le n m ≡ true
le_is n m h = le_by n m (int_le n m) refl h

within_is : (n m : ℤ) → int_le n m ≡ true → n ≤ℤ m
within_is n m h = omega (arith, ints, h)

beyond_is : (n m : ℤ) → int_le n m ≡ false → (m +ℤ pos 1) ≤ℤ n
beyond_is n m h = omega (arith, ints, h)

value_either : (f : ℤ → ℤ) (n : ℤ) (s : Stretch) (rest : List Stretch) (b : Bool) → int_le n s.to ≡ b → (n ≤ℤ s.to → value_at s n ≡ f n) → ((s.to +ℤ pos 1) ≤ℤ n → value_in rest n ≡ f n) → value_in (s ∷ rest) n ≡ f n
value_either f n s rest true e on off = by_true (int_le n s.to) (value_at s n) (value_in rest n) e ∙ on (within_is n s.to e)
value_either f n s rest false e on off = by_false (int_le n s.to) (value_at s n) (value_in rest n) e ∙ off (beyond_is n s.to e)

pub value_is : (f : ℤ → ℤ) (last from : ℤ) (list : List Stretch) → AreStretches f last from list → (n : ℤ) → from ≤ℤ n → n ≤ℤ last → value_in list n ≡ f n
value_is f last from [] are n low high = elim are [ ]
value_is f last from (s ∷ []) (final _ _ s_from s_to is) n low high =
    by_true (int_le n s.to) (value_at s n) (pos 0) (le_is n s.to (le_at n last s.to high (sym s_to))) ∙ sym (is.on n (at_le from s.from n (sym s_from) low) (le_at n last s.to high (sym s_to)))
value_is f last from (s ∷ rest) (before _ _ _ s_from is more) n low high =
    value_either f n s rest (int_le n s.to) refl (λ le. sym (is.on n (at_le from s.from n (sym s_from) low) le)) (λ gt. value_is f last (s.to +ℤ pos 1) rest more n gt high)

-- the stretches of a function that is the same on these numbers
pub stretches_as : (f g : ℤ → ℤ) (last from : ℤ) (list : List Stretch) → ((n : ℤ) → from ≤ℤ n → n ≤ℤ last → g n ≡ f n) → AreStretches f last from list → AreStretches g last from list
stretches_as f g last from [] same are = elim are [ ]
stretches_as f g last from (s ∷ []) same (final _ _ s_from s_to is) = final from s s_from s_to (record {
  some = is.some;
  single = is.single;
  on = λ n low high. same n (at_le s.from from n s_from low) (le_at n s.to last high s_to) ∙ is.on n low high;
})
stretches_as f g last from (s ∷ rest) same (before _ _ _ s_from is more) = before from s rest s_from (record {
  long = is.long;
  on = λ n low high. same n (at_le s.from from n s_from low) (to_last n high) ∙ is.on n low high;
  ends = λ e. is.ends (sym (same (s.to +ℤ pos 1) (next_from (s.to +ℤ pos 1) (le_same (s.to +ℤ pos 1))) (in_order f last (s.to +ℤ pos 1) rest more)) ∙ e);
}) (stretches_as f g last (s.to +ℤ pos 1) rest (λ n low high. same n (next_from n low) high) more) where
  to_last : (n : ℤ) → n ≤ℤ s.to → n ≤ℤ last
  to_last n h = le_through n (s.to +ℤ pos 1) last (le_through n s.to (s.to +ℤ pos 1) h (le_next s.to)) (in_order f last (s.to +ℤ pos 1) rest more)

  next_from : (n : ℤ) → (s.to +ℤ pos 1) ≤ℤ n → from ≤ℤ n
  next_from n h = from_next from s.from s.to n s_from is.long h where
    from_next : (a b c d : ℤ) → b ≡ a → b <ℤ c → (c +ℤ pos 1) ≤ℤ d → a ≤ℤ d
    from_next a b c d e h k = omega (arith, ints, e, h, k)

pub own_stretches : (f : ℤ → ℤ) (last from : ℤ) (list : List Stretch) → AreStretches f last from list → AreStretches (value_in list) last from list
own_stretches f last from list is = stretches_as f (value_in list) last from list (value_is f last from list is) is

pub own_tame : (s t : ℤ) (f : ℤ → ℤ) (last from : ℤ) (list : List Stretch) → AreStretches f last from list → IsTame s t f from last → IsTame s t (value_in list) from last
own_tame s t f last from list is tame = tame_part s t f (value_in list) from last from last (le_same from) (le_same last) (value_is f last from list is) tame

pub has_first : (f : ℤ → ℤ) (last from : ℤ) → AreStretches f last from [] → ⊥
has_first f last from h = elim h [ ]

pub first_is : (f : ℤ → ℤ) (last from : ℤ) (s : Stretch) (rest : List Stretch) → AreStretches f last from (s ∷ rest) → s.start ≡ f from
first_is f last from s [] (final _ _ s_from s_to is) = sym (along_here s.start s.slope s.from) ∙ sym (is.on s.from (le_same s.from) is.some) ∙ ap f s_from
first_is f last from s rest (before _ _ _ s_from is more) = sym (along_here s.start s.slope s.from) ∙ sym (is.on s.from (le_same s.from) (weaker s.from s.to is.long)) ∙ ap f s_from where
  weaker : (a b : ℤ) → a <ℤ b → a ≤ℤ b
  weaker a b h = omega (arith, ints, h)

-- ---- two counts joined

pub reads_first : (join : Join) (left right : List Stretch) (from last : ℤ) (done : List Stretch) (latest : Stretch) → AreTame join left right from last → AreStretches (value_in left) last from left → AreStretches (value_in right) last from right → latest.to ≡ from → AreSoFar (both_in join left right) from done latest → IsRead join left right from last left right done latest
reads_first join left right from last done latest tame l r to so_far = record {
  tame = tame;
  within = le_at from from latest.to (le_same from) (sym to);
  left_ahead = ahead_of (value_in left) last latest.to from left (le_at latest.to latest.to from (le_same latest.to) to) (at_le latest.to from (latest.to +ℤ pos 1) to (le_next latest.to)) l;
  right_ahead = ahead_of (value_in right) last latest.to from right (le_at latest.to latest.to from (le_same latest.to) to) (at_le latest.to from (latest.to +ℤ pos 1) to (le_next latest.to)) r;
  so_far = so_far;
}

pub reading_begins : (join : Join) (left right : List Stretch) (from last : ℤ) (done : List Stretch) (latest : Stretch) → AreTame join left right from last → AreStretches (value_in left) last from left → AreStretches (value_in right) last from right → latest.to ≡ from → AreSoFar (both_in join left right) from done latest → IsReading join left right left right done latest
reading_begins join left right from last done latest tame l r to so_far = record { from = from; last = last; read = reads_first join left right from last done latest tame l r to so_far }

-- ---- a constant

pub constant_on : (s : Stretch) (number n : ℤ) → s.start ≡ number → s.slope ≡ pos 0 → value_at s n ≡ number
constant_on s number n start slope = ap (λ v. along v s.slope s.from n) start ∙ ap (λ v. along number v s.from n) slope ∙ along_flat number s.from n

pub constant_stretches : (s : Stretch) (from to number : ℤ) → s.from ≡ from → s.to ≡ to → s.start ≡ number → s.slope ≡ pos 0 → from ≤ℤ to → AreStretches (λ n. number) to from (s ∷ [])
constant_stretches s from to number s_from s_to start slope le = final from s s_from s_to (record {
  some = at_le from s.from s.to (sym s_from) (le_at from to s.to le (sym s_to));
  single = λ e. slope;
  on = λ n low high. sym (constant_on s number n start slope);
})

pub constant_are : (list : List Stretch) (s : Stretch) (span : Span) (number : ℤ) → list ≡ s ∷ [] → s.from ≡ span.from → s.to ≡ span.to → s.start ≡ number → s.slope ≡ pos 0 → AreStretches (λ n. number) span.to span.from list
constant_are list s span number is from to start slope = subst (λ xs. AreStretches (λ n. number) span.to span.from xs) (sym is) (constant_stretches s span.from span.to number from to start slope span.to_low)

const_most : (w : ℤ) → pos 0 ≤ℤ w → w ≤ℤ (w *ℤ pos 900000200001)
const_most w h = omega (arith, ints, h)

const_step : (w : ℤ) → pos 0 ≤ℤ w → w ≤ℤ (w +ℤ w)
const_step w h = omega (arith, ints, h)

pub constant_tame : (w from to : ℤ) → pos 0 ≤ℤ w → IsTame w (w *ℤ pos 900000200001) (λ n. w) from to
constant_tame w from to h = record { least = λ n a b. h; most = λ n a b. const_most w h; steps = λ n a b. record { up = const_step w h; down = const_step w h } }

-- ---- a line that is cut off

max_least : (a : ℤ) → pos 0 ≤ℤ int_max (pos 0) a
max_least a = omega (arith, ints, clamps)

max_most : (a w : ℤ) → pos 0 ≤ℤ w → a ≤ℤ (w *ℤ pos 900000200001) → int_max (pos 0) a ≤ℤ (w *ℤ pos 900000200001)
max_most a w h k = omega (arith, ints, clamps, h, k)

max_up : (a b slope w : ℤ) → pos 0 ≤ℤ w → b ≡ a +ℤ slope → slope ≤ℤ w → int_max (pos 0) b ≤ℤ (int_max (pos 0) a +ℤ w)
max_up a b slope w h e k = omega (arith, ints, clamps, h, e, k)

max_down : (a b slope w : ℤ) → pos 0 ≤ℤ w → b ≡ a +ℤ slope → pos 0 ≤ℤ (slope +ℤ w) → int_max (pos 0) a ≤ℤ (int_max (pos 0) b +ℤ w)
max_down a b slope w h e k = omega (arith, ints, clamps, h, e, k)

module _ (span : Span) (line : Line) (mild : IsMild span line) where
  pub clipped_tame : IsTame line.weight (line.weight *ℤ pos 900000200001) (clipped span line) span.from span.to
  clipped_tame = record {
    least = λ n a b. max_least (ray_at line.ray span.from n);
    most = λ n a b. max_most (ray_at line.ray span.from n) line.weight mild.weight_low (mild.high n a b);
    steps = λ n a b. record {
      up = max_up (ray_at line.ray span.from n) (ray_at line.ray span.from (n +ℤ pos 1)) line.ray.slope line.weight mild.weight_low (along_next line.ray.start line.ray.slope span.from n) mild.slope_high;
      down = max_down (ray_at line.ray span.from n) (ray_at line.ray span.from (n +ℤ pos 1)) line.ray.slope line.weight mild.weight_low (along_next line.ray.start line.ray.slope span.from n) mild.slope_low;
    };
  }

  clipped_light : IsTame steep tall (clipped span line) span.from span.to
  clipped_light = tame_light line.weight (clipped span line) span.from span.to mild.weight_high clipped_tame

  pub first_clipped : clipped span line span.from ≡ int_max line.ray.start (pos 0)
  first_clipped = ap (λ v. int_max (pos 0) v) (along_here line.ray.start line.ray.slope span.from) ∙ max_same (pos 0) line.ray.start where
    max_same : (a b : ℤ) → int_max a b ≡ int_max b a
    max_same a b = omega (arith, ints, clamps)

  pub first_low : pos 0 ≤ℤ int_max line.ray.start (pos 0)
  first_low = subst (λ v. pos 0 ≤ℤ v) first_clipped (clipped_light.least span.from (le_same span.from) span.to_low)

  pub first_high : int_max line.ray.start (pos 0) ≤ℤ tall
  first_high = subst (λ v. v ≤ℤ tall) first_clipped (clipped_light.most span.from (le_same span.from) span.to_low)

  -- from the next number on
  module _ (rest : Span) (zero behind : Ray) (latest : Stretch) (rest_from : rest.from ≡ span.from +ℤ pos 1) (rest_to : rest.to ≡ span.to) (zero_start : zero.start ≡ pos 0) (zero_slope : zero.slope ≡ pos 0) (behind_start : behind.start ≡ line.ray.start +ℤ line.ray.slope) (behind_slope : behind.slope ≡ line.ray.slope) (so_far_done : List Stretch) (begun : IsBegun span line so_far_done latest) where
    second_value : line.ray.start +ℤ line.ray.slope ≡ ray_at line.ray span.from rest.from
    second_value = sym (ap (λ n. ray_at line.ray span.from n) rest_from ∙ along_next line.ray.start line.ray.slope span.from span.from ∙ ap (λ v. v +ℤ line.ray.slope) (along_here line.ray.start line.ray.slope span.from))

    behind_same : (n : ℤ) → ray_at behind rest.from n ≡ ray_at line.ray span.from n
    behind_same n = ap (λ v. along v behind.slope rest.from n) (behind_start ∙ second_value) ∙ ap (λ v. along (ray_at line.ray span.from rest.from) v rest.from n) behind_slope ∙ along_anew line.ray.start line.ray.slope span.from rest.from n

    zero_same : (n : ℤ) → ray_at zero rest.from n ≡ pos 0
    zero_same n = ap (λ v. along v zero.slope rest.from n) zero_start ∙ ap (λ v. along (pos 0) v rest.from n) zero_slope ∙ along_flat (pos 0) rest.from n

    both_same : (n : ℤ) → both Most rest.from zero behind n ≡ clipped span line n
    both_same n = ap (λ v. int_max v (ray_at behind rest.from n)) (zero_same n) ∙ ap (λ v. int_max (pos 0) v) (behind_same n)

    rest_low : span.from ≤ℤ rest.from
    rest_low = le_at span.from (span.from +ℤ pos 1) rest.from (le_next span.from) (sym rest_from)

    pub rest_goes : GoesOn (both Most rest.from zero behind) latest rest
    rest_goes = goes_as (clipped span line) (both Most rest.from zero behind) latest rest (λ n low high. both_same n) (record {
      next = rest_from ∙ ap (λ n. n +ℤ pos 1) (sym begun.to);
      step = subst (λ v. IsStep steep v (clipped span line rest.from)) (sym begun.value)
          (subst (λ n. IsStep steep (clipped span line span.from) (clipped span line n)) (sym rest_from) (clipped_light.steps span.from (le_same span.from) (first_before span.from rest.from rest.to span.to rest_from rest.to_low rest_to)));
      tame = tame_part steep tall (clipped span line) (clipped span line) span.from span.to rest.from rest.to rest_low (le_at rest.to rest.to span.to (le_same rest.to) rest_to) (λ n h k. refl) clipped_light;
    }) where
      first_before : (a b c d : ℤ) → b ≡ a +ℤ pos 1 → b ≤ℤ c → c ≡ d → a <ℤ d
      first_before a b c d e h f = omega (arith, ints, e, h, f)

    pub rest_added : (done longer : List Stretch) (later : Stretch) → Added (both Most rest.from zero behind) rest.to done latest longer later → Added (clipped span line) span.to done latest longer later
    rest_added done longer later added = subst (λ y. Added (clipped span line) y done latest longer later) rest_to (added_as (both Most rest.from zero behind) (clipped span line) rest.to done latest longer later (λ n gt le. sym (both_same n)) added)

-- bounds of the line behind
pub behind_low : (start slope w v : ℤ) → v ≡ start +ℤ slope → w ≤ℤ pos 4100000 → pos 0 ≤ℤ (v +ℤ w *ℤ pos 900000200001) → negsuc 3999999999999999999 ≤ℤ (start +ℤ slope)
behind_low start slope w v e h k = omega (arith, ints, e, h, k)

pub behind_high : (start slope w v : ℤ) → v ≡ start +ℤ slope → w ≤ℤ pos 4100000 → v ≤ℤ (w *ℤ pos 900000200001) → (start +ℤ slope) ≤ℤ pos 4000000000000000000
behind_high start slope w v e h k = omega (arith, ints, e, h, k)

pub next_value : (start slope from : ℤ) → along start slope from (from +ℤ pos 1) ≡ start +ℤ slope
next_value start slope from = along_next start slope from from ∙ ap (λ v. v +ℤ slope) (along_here start slope from)

-- ---- what a count is

pub count_of : (f : ℤ → ℤ) (c : Count) → AreStretches f c.span.to c.span.from c.list.items → IsTame c.weight (c.weight *ℤ pos 900000200001) f c.span.from c.span.to → IsCount c
count_of f c is tame = record { stretches = own_stretches f c.span.to c.span.from c.list.items is; tame = own_tame c.weight (c.weight *ℤ pos 900000200001) f c.span.to c.span.from c.list.items is tame }

pub count_says : (f : ℤ → ℤ) (c : Count) → AreStretches f c.span.to c.span.from c.list.items → Says c f
count_says f c is = record { is = value_is f c.span.to c.span.from c.list.items is }

-- ---- two counts joined

module _ (join : Join) (a b : Count) (is_a : IsCount a) (is_b : IsCount b) (span : b.span ≡ a.span) where
  b_tame : IsTame b.weight (b.weight *ℤ pos 900000200001) (value_in b.list.items) a.span.from a.span.to
  b_tame = subst (λ s. IsTame b.weight (b.weight *ℤ pos 900000200001) (value_in b.list.items) s.from s.to) span is_b.tame

  pub both_tame : IsTame (a.weight +ℤ b.weight) ((a.weight +ℤ b.weight) *ℤ pos 900000200001) (both_in join a.list.items b.list.items) a.span.from a.span.to
  both_tame = tame_both join a.weight b.weight (value_in a.list.items) (value_in b.list.items) a.span.from a.span.to a.weight_low b.weight_low is_a.tame b_tame

  module _ (light : (a.weight +ℤ b.weight) ≤ℤ pos 4100000) where
    are_tame : AreTame join a.list.items b.list.items a.span.from a.span.to
    are_tame = record {
      low = a.span.from_low;
      room = a.span.to_high;
      left_tame = tame_left a.weight b.weight (value_in a.list.items) a.span.from a.span.to b.weight_low light is_a.tame;
      right_tame = tame_right a.weight b.weight (value_in b.list.items) a.span.from a.span.to a.weight_low light b_tame;
      tame = tame_light (a.weight +ℤ b.weight) (both_in join a.list.items b.list.items) a.span.from a.span.to light both_tame;
    }

    pub left_first_low : pos 0 ≤ℤ value_in a.list.items a.span.from
    left_first_low = are_tame.left_tame.least a.span.from (le_same a.span.from) a.span.to_low

    pub left_first_high : value_in a.list.items a.span.from ≤ℤ tall
    left_first_high = are_tame.left_tame.most a.span.from (le_same a.span.from) a.span.to_low

    pub right_first_low : pos 0 ≤ℤ value_in b.list.items a.span.from
    right_first_low = are_tame.right_tame.least a.span.from (le_same a.span.from) a.span.to_low

    pub right_first_high : value_in b.list.items a.span.from ≤ℤ tall
    right_first_high = are_tame.right_tame.most a.span.from (le_same a.span.from) a.span.to_low

    pub both_first_low : pos 0 ≤ℤ both_in join a.list.items b.list.items a.span.from
    both_first_low = are_tame.tame.least a.span.from (le_same a.span.from) a.span.to_low

    pub both_first_high : both_in join a.list.items b.list.items a.span.from ≤ℤ tall
    both_first_high = are_tame.tame.most a.span.from (le_same a.span.from) a.span.to_low

    pub first_read : (done : List Stretch) (latest : Stretch) → latest.to ≡ a.span.from → AreSoFar (both_in join a.list.items b.list.items) a.span.from done latest → IsRead join a.list.items b.list.items a.span.from a.span.to a.list.items b.list.items done latest
    first_read done latest to so_far = reads_first join a.list.items b.list.items a.span.from a.span.to done latest are_tame is_a.stretches (subst (λ s. AreStretches (value_in b.list.items) s.to s.from b.list.items) span is_b.stretches) to so_far

pub some_first : (c : Count) → IsCount c → 0 < length c.list.items
some_first c is = some c.list.items is.stretches where
  some : (list : List Stretch) → AreStretches (value_in c.list.items) c.span.to c.span.from list → 0 < length list
  some [] are = elim are [ ]
  some (s ∷ rest) are = omega (arith)

pub first_said : (c : Count) → IsCount c → (s : Stretch) → s ≡ slice_index_or c.list.items 0 s → s.start ≡ value_in c.list.items c.span.from
first_said c is s e = said c.list.items is.stretches e where
  said : (list : List Stretch) → AreStretches (value_in c.list.items) c.span.to c.span.from list → s ≡ slice_index_or list 0 s → s.start ≡ value_in c.list.items c.span.from
  said [] are e = elim are [ ]
  said (t ∷ rest) are e = ap (λ x. x.start) e ∙ first_is (value_in c.list.items) c.span.to c.span.from t rest are

-- ---- a clipped line, from its first number on

pub clipped_first : (span : Span) (line : Line) (done : List Stretch) (latest : Stretch) → latest.to ≡ span.from → value_at latest latest.to ≡ clipped span line span.from → AreSoFar (clipped span line) span.from done latest → IsBegun span line done latest
clipped_first span line done latest to value so_far = record { to = to; value = value; so_far = so_far }

pub clipped_single : (span : Span) (line : Line) (done : List Stretch) (latest : Stretch) → span.to ≤ℤ span.from → IsBegun span line done latest → IsClipped span line done latest
clipped_single span line done latest single begun = record { to = begun.to ∙ ended span.from span.to span.to_low single; so_far = begun.so_far } where
  ended : (a b : ℤ) → a ≤ℤ b → b ≤ℤ a → a ≡ b
  ended a b h k = omega (arith, ints, h, k)

pub clipped_whole : (span : Span) (line : Line) (done : List Stretch) (latest : Stretch) (longer : List Stretch) (later : Stretch) → IsBegun span line done latest → Added (clipped span line) span.to done latest longer later → IsClipped span line longer later
clipped_whole span line done latest longer later begun added = record { to = added.ends; so_far = added.adds.so_far (clipped span line) span.from (λ n gt le. refl) begun.so_far }
