-- Each tame function has stretches, which are found number by number.
use Rattle.std.proofs.Common.{◌≡◌, ◌≢◌, zero, suc, ℕ, ℤ, pos, negsuc, ◌+ℤ◌, ◌-ℤ◌, ◌≤ℤ◌, ◌<ℤ◌, ◌⊎◌, inl, inr, List, [], ◌∷◌, ◌++◌, refl, sym, ap, ◌∙◌, subst, arith}
use Rattle.std.proofs.lemmas.Int.{ints}
use Rattle.pb_cost_pieces.specs.declared.stretch.Stretch.{Stretch}
use Rattle.pb_cost_pieces.specs.Lines.{value_at, AreStretches, AreSoFar, IsStep, IsTame}
use Rattle.pb_cost_pieces.specs.Building.{Adds, Leaves}
use Rattle.pb_cost_pieces.proofs.Build.{at_first}
use Rattle.pb_cost_pieces.proofs.Begin.{first_number, all_stretches}
use Rattle.pb_cost_pieces.proofs.Extend.{second_extends, number_extends, number_follows, begins}

-- ---- numbers in order

le_same : (x : ℤ) → x ≤ℤ x
le_same x = omega (arith, ints)

le_next : (x : ℤ) → x ≤ℤ (x +ℤ pos 1)
le_next x = omega (arith, ints)

next_le : (x last : ℤ) → x <ℤ last → (x +ℤ pos 1) ≤ℤ last
next_le x last h = omega (arith, ints, h)

le_through : (x y z : ℤ) → x ≤ℤ y → y ≤ℤ z → x ≤ℤ z
le_through x y z h k = omega (arith, ints, h, k)

le_after : (x y : ℤ) → x ≤ℤ y → x ≤ℤ (y +ℤ pos 1)
le_after x y h = omega (arith, ints, h)

le_at : (x y z : ℤ) → x ≤ℤ y → y ≡ z → x ≤ℤ z
le_at x y z h e = omega (arith, ints, h, e)

only_next : (m n : ℤ) → m <ℤ n → n ≤ℤ (m +ℤ pos 1) → n ≡ m +ℤ pos 1
only_next m n gt le = omega (arith, ints, gt, le)

three_ways : (a b : ℤ) → (a <ℤ b) ⊎ ((a ≡ b) ⊎ (b <ℤ a))
three_ways a b = grind (arith, ints)

not_below : (a b : ℤ) → a <ℤ b → a ≡ b → ⊥
not_below a b h e = omega (arith, ints, h, e)

not_above : (a b : ℤ) → b <ℤ a → a ≡ b → ⊥
not_above a b h e = omega (arith, ints, h, e)

same_or_not : (a b : ℤ) → (a ≡ b) ⊎ (a ≢ b)
same_or_not a b = elim (three_ways a b) [
  | inl lt ↦ inr (not_below a b lt)
  | inr e ↦ elim e [ inl eq ↦ inl eq | inr gt ↦ inr (not_above a b gt) ]
]

-- ---- the bounds of a stretch

slope_least : (x v start : ℤ) → x ≡ start → x ≤ℤ (v +ℤ pos 4100000) → negsuc 4099999 ≤ℤ (v -ℤ start)
slope_least x v start e h = omega (arith, ints, e, h)

slope_most : (x v start : ℤ) → x ≡ start → v ≤ℤ (x +ℤ pos 4100000) → (v -ℤ start) ≤ℤ pos 4100000
slope_most x v start e h = omega (arith, ints, e, h)

flat_least : negsuc 4099999 ≤ℤ pos 0
flat_least = omega (arith, ints)

flat_most : pos 0 ≤ℤ pos 4100000
flat_most = omega (arith, ints)

-- ---- one number more

-- the stretches up to the number `to`
pub record UpTo (f : ℤ → ℤ) (from to : ℤ) : Type 0 where
  pub done : List Stretch
  pub latest : Stretch
  pub ends : latest.to ≡ to
  pub so_far : AreSoFar f from done latest

module _ (f : ℤ → ℤ) (from last : ℤ) (low : pos 0 ≤ℤ from) (room : last ≤ℤ pos 900000000000) (tame : IsTame (pos 4100000) (pos 4000000000000000000) f from last) where
  module _ (done : List Stretch) (s : Stretch) (so_far : AreSoFar f from done s) (within : from ≤ℤ s.to) (behind : s.to <ℤ last) where
    here : f s.to ≡ value_at s s.to
    here = so_far.last.on s.to so_far.last.some (le_same s.to)

    step : IsStep (pos 4100000) (f s.to) (f (s.to +ℤ pos 1))
    step = tame.steps s.to within behind

    next_room : (s.to +ℤ pos 1) ≤ℤ pos 900000000000
    next_room = le_through (s.to +ℤ pos 1) last (pos 900000000000) (next_le s.to last behind) room

    from_adds : (longer : List Stretch) (t : Stretch) → t.to ≡ s.to +ℤ pos 1 → Adds (λ n. f (s.to +ℤ pos 1)) done s longer t → UpTo f from (s.to +ℤ pos 1)
    from_adds longer t to adds = record {
      done = longer;
      latest = t;
      ends = to;
      so_far = adds.so_far f from (λ n gt le. ap f (only_next s.to n gt (le_at n t.to (s.to +ℤ pos 1) le to))) so_far;
    }

    -- a number alone, and this one
    second_of : s.from ≡ s.to → Stretch
    second_of single = record {
      from = s.from;
      to = s.to +ℤ pos 1;
      start = s.start;
      slope = f (s.to +ℤ pos 1) -ℤ s.start;
      from_low = s.from_low;
      to_low = le_after s.from s.to s.to_low;
      to_high = next_room;
      start_low = s.start_low;
      start_high = s.start_high;
      slope_low = slope_least (f s.to) (f (s.to +ℤ pos 1)) s.start (here ∙ at_first s s.to (sym single)) step.down;
      slope_high = slope_most (f s.to) (f (s.to +ℤ pos 1)) s.start (here ∙ at_first s s.to (sym single)) step.up;
    }

    second_added : (t : Stretch) → s.from ≡ s.to → t.from ≡ s.from → t.to ≡ s.to +ℤ pos 1 → t.start ≡ s.start → t.slope ≡ f (s.to +ℤ pos 1) -ℤ s.start → UpTo f from (s.to +ℤ pos 1)
    second_added t single t_from t_to t_start t_slope = from_adds done t t_to ((second_extends s t (f (s.to +ℤ pos 1)) single t_from t_to t_start t_slope).adds done)

    -- the line with this number
    longer_of : Stretch
    longer_of = record {
      from = s.from;
      to = s.to +ℤ pos 1;
      start = s.start;
      slope = s.slope;
      from_low = s.from_low;
      to_low = le_after s.from s.to s.to_low;
      to_high = next_room;
      start_low = s.start_low;
      start_high = s.start_high;
      slope_low = s.slope_low;
      slope_high = s.slope_high;
    }

    longer_added : (t : Stretch) → value_at s (s.to +ℤ pos 1) ≡ f (s.to +ℤ pos 1) → t.from ≡ s.from → t.to ≡ s.to +ℤ pos 1 → t.start ≡ s.start → t.slope ≡ s.slope → UpTo f from (s.to +ℤ pos 1)
    longer_added t on t_from t_to t_start t_slope = from_adds done t t_to ((number_extends s t (f (s.to +ℤ pos 1)) on t_from t_to t_start t_slope).adds done)

    -- this number alone
    alone : Stretch
    alone = record {
      from = s.to +ℤ pos 1;
      to = s.to +ℤ pos 1;
      start = f (s.to +ℤ pos 1);
      slope = pos 0;
      from_low = le_through (pos 0) from (s.to +ℤ pos 1) low (le_after from s.to within);
      to_low = le_same (s.to +ℤ pos 1);
      to_high = next_room;
      start_low = tame.least (s.to +ℤ pos 1) (le_after from s.to within) (next_le s.to last behind);
      start_high = tame.most (s.to +ℤ pos 1) (le_after from s.to within) (next_le s.to last behind);
      slope_low = flat_least;
      slope_high = flat_most;
    }

    alone_added : (t : Stretch) → s.from ≢ s.to → value_at s (s.to +ℤ pos 1) ≢ f (s.to +ℤ pos 1) → t.from ≡ s.to +ℤ pos 1 → t.to ≡ s.to +ℤ pos 1 → t.start ≡ f (s.to +ℤ pos 1) → t.slope ≡ pos 0 → UpTo f from (s.to +ℤ pos 1)
    alone_added t long off t_from t_to t_start flat =
        let leaves : Leaves (λ n. f (s.to +ℤ pos 1)) s = record { long = long; off = λ e. off (sym e) } in
        from_adds (done ++ s ∷ []) t t_to (begins (λ n. f (s.to +ℤ pos 1)) done s (s.to +ℤ pos 1) t leaves (number_follows s t (f (s.to +ℤ pos 1)) t_from t_to t_start flat))

    number_added : UpTo f from (s.to +ℤ pos 1)
    unfolding second_of longer_of alone
    number_added = elim (same_or_not s.from s.to) [
      | inl single ↦ second_added (second_of single) single refl refl refl refl
      | inr long ↦ elim (same_or_not (value_at s (s.to +ℤ pos 1)) (f (s.to +ℤ pos 1))) [
        | inl on ↦ longer_added longer_of on refl refl refl refl
        | inr off ↦ alone_added alone long off refl refl refl refl
      ]
    ]

  -- ---- all numbers

  first_of : from ≤ℤ last → Stretch
  first_of some = record {
    from = from;
    to = from;
    start = f from;
    slope = pos 0;
    from_low = low;
    to_low = le_same from;
    to_high = le_through from last (pos 900000000000) some room;
    start_low = tame.least from (le_same from) some;
    start_high = tame.most from (le_same from) some;
    slope_low = flat_least;
    slope_high = flat_most;
  }

  first_added : (s : Stretch) → s.from ≡ from → s.to ≡ from → s.start ≡ f from → s.slope ≡ pos 0 → UpTo f from from
  first_added s s_from s_to s_start flat = record { done = []; latest = s; ends = s_to; so_far = first_number f [] s from (f from) refl s_from s_to s_start flat refl }

  next_added : (m : ℤ) → from ≤ℤ m → m <ℤ last → UpTo f from m → UpTo f from (m +ℤ pos 1)
  next_added m within behind known =
      subst (λ x. UpTo f from (x +ℤ pos 1)) known.ends
      (number_added known.done known.latest known.so_far (le_at from m known.latest.to within (sym known.ends)) (less_as m known.latest.to last known.ends behind)) where
        less_as : (a b c : ℤ) → b ≡ a → a <ℤ c → b <ℤ c
        less_as a b c e h = omega (arith, ints, e, h)

  no_steps : (x : ℤ) → x ≡ x +ℤ pos zero
  no_steps x = omega (arith, ints)

  one_step : (x : ℤ) (k : ℕ) → (x +ℤ pos k) +ℤ pos 1 ≡ x +ℤ pos (suc k)
  one_step x k = omega (arith, ints)

  stepped : (x : ℤ) (k : ℕ) → x ≤ℤ (x +ℤ pos k)
  stepped x k = omega (arith, ints)

  step_before : (x y : ℤ) (k : ℕ) → (x +ℤ pos (suc k)) ≤ℤ y → (x +ℤ pos k) <ℤ y
  step_before x y k h = omega (arith, ints, h)

  step_within : (x y : ℤ) (k : ℕ) → (x +ℤ pos (suc k)) ≤ℤ y → (x +ℤ pos k) ≤ℤ y
  step_within x y k h = omega (arith, ints, h)

  none_within : (x y : ℤ) → (x +ℤ pos zero) ≤ℤ y → x ≤ℤ y
  none_within x y h = omega (arith, ints, h)

  up_to : (k : ℕ) → (from +ℤ pos k) ≤ℤ last → UpTo f from (from +ℤ pos k)
  unfolding first_of
  up_to zero h = subst (λ x. UpTo f from x) (no_steps from) (first_added (first_of (none_within from last h)) refl refl refl refl)
  up_to (suc k) h = subst (λ x. UpTo f from x) (one_step from k) (next_added (from +ℤ pos k) (stepped from k) (step_before from last k h) (up_to k (step_within from last k h)))

  steps_to : (d a b : ℤ) → d ≡ b -ℤ a → a ≤ℤ b → (k : ℕ) × (a +ℤ pos k ≡ b)
  steps_to (pos k) a b e h = (k, omega (arith, ints, e))
  steps_to (negsuc k) a b e h = absurd (omega (arith, ints, e, h))

  same_le : (x y : ℤ) → x ≡ y → x ≤ℤ y
  same_le x y e = omega (arith, ints, e)

  pub has_stretches : from ≤ℤ last → (list : List Stretch) × AreStretches f last from list
  has_stretches some =
      let steps = steps_to (last -ℤ from) from last refl some in
      let known = up_to steps.0 (same_le (from +ℤ pos steps.0) last steps.1) in
      (known.done ++ known.latest ∷ [], subst (λ x. AreStretches f x from (known.done ++ known.latest ∷ [])) (known.ends ∙ steps.1) (all_stretches f from known.done known.latest known.so_far))
