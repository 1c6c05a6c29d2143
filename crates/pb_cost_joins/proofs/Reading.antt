-- Two lists of stretches, read side by side.
use Rattle.std.proofs.Common.{◌≡◌, ◌≢◌, ℕ, ◌+◌, ◌-◌, ◌<◌, ◌≤◌, length, drop, slice_index_or, ℤ, pos, ◌+ℤ◌, ◌≤ℤ◌, ◌<ℤ◌, ◌⊎◌, inl, inr, List, [], ◌∷◌, sym, ap, ◌∙◌, subst, arith}
use Rattle.std.specs.Int.{int_min}
use Rattle.std.proofs.lemmas.Int.{ints, clamps}
use Rattle.std.proofs.lemmas.List.{drop_more, drop_all}
use Rattle.pb_cost_pieces.specs.declared.join.Join.{Join}
use Rattle.pb_cost_pieces.specs.declared.stretch.Stretch.{Stretch}
use Rattle.pb_cost_pieces.specs.Lines.{value_at, value_in, joined, IsStep, AreSoFar}
use Rattle.pb_cost_pieces.proofs.Switching.{tame_part}
use Rattle.pb_cost_joins.specs.Adding.{steep, tall, Added, Continues, both_at, first_end}
use Rattle.pb_cost_joins.specs.Merging.{both_in, IsRead, IsReading, ReadsOn, ReadsAll}
use Rattle.pb_cost_joins.proofs.Ahead.{Head, head_of, none_ahead, ahead_within, read_up_to}

min_left : (a b : ℤ) → int_min a b ≤ℤ a
min_left a b = omega (arith, ints, clamps)

min_right : (a b : ℤ) → int_min a b ≤ℤ b
min_right a b = omega (arith, ints, clamps)

min_above : (x a b : ℤ) → x ≤ℤ a → x ≤ℤ b → x ≤ℤ int_min a b
min_above x a b h k = omega (arith, ints, clamps, h, k)

le_through : (x y z : ℤ) → x ≤ℤ y → y ≤ℤ z → x ≤ℤ z
le_through x y z h k = omega (arith, ints, h, k)

le_next : (x y : ℤ) → x ≤ℤ y → x ≤ℤ (y +ℤ pos 1)
le_next x y h = omega (arith, ints, h)

after : (x n : ℤ) → (x +ℤ pos 1) ≤ℤ n → x <ℤ n
after x n h = omega (arith, ints, h)

before : (x to last : ℤ) → x <ℤ to → to ≤ℤ last → x <ℤ last
before x to last h k = omega (arith, ints, h, k)

next_le : (x to : ℤ) → x <ℤ to → (x +ℤ pos 1) ≤ℤ to
next_le x to h = omega (arith, ints, h)

le_same : (x : ℤ) → x ≤ℤ x
le_same x = omega (arith, ints)

le_at : (x y z : ℤ) → x ≤ℤ y → y ≡ z → x ≤ℤ z
le_at x y z h e = omega (arith, ints, h, e)

at_le : (x y z : ℤ) → x ≡ y → y ≤ℤ z → x ≤ℤ z
at_le x y z e h = omega (arith, ints, h, e)

-- both joined, where both stretches are read
both_same : (join : Join) (f g : ℤ → ℤ) (s t : Stretch) (n : ℤ) → f n ≡ value_at s n → g n ≡ value_at t n → joined join (f n) (g n) ≡ both_at join s t n
both_same join f g s t n e h = ap (λ x. joined join x (g n)) e ∙ ap (λ y. joined join (value_at s n) y) h

module _ (join : Join) (left right : List Stretch) (from last : ℤ) (s t : Stretch) (left_rest right_rest done : List Stretch) (latest : Stretch) (is : IsRead join left right from last (s ∷ left_rest) (t ∷ right_rest) done latest) where
  left_head : Head (value_in left) last latest.to s left_rest
  left_head = head_of (value_in left) last latest.to s left_rest is.left_ahead

  right_head : Head (value_in right) last latest.to t right_rest
  right_head = head_of (value_in right) last latest.to t right_rest is.right_ahead

  end_within : first_end s t ≤ℤ last
  end_within = le_through (first_end s t) s.to last (min_left s.to t.to) (ahead_within (value_in left) last s.to left_rest left_head.behind)

  end_after : latest.to ≤ℤ first_end s t
  end_after = min_above latest.to s.to t.to left_head.to right_head.to

  left_on : (n : ℤ) → latest.to <ℤ n → n ≤ℤ first_end s t → value_in left n ≡ value_at s n
  left_on n gt le = left_head.on n gt (le_through n (first_end s t) s.to le (min_left s.to t.to))

  right_on : (n : ℤ) → latest.to <ℤ n → n ≤ℤ first_end s t → value_in right n ≡ value_at t n
  right_on n gt le = right_head.on n gt (le_through n (first_end s t) t.to le (min_right s.to t.to))

  both_on : (n : ℤ) → latest.to <ℤ n → n ≤ℤ first_end s t → both_in join left right n ≡ both_at join s t n
  both_on n gt le = both_same join (value_in left) (value_in right) s t n (left_on n gt le) (right_on n gt le)

  next_within : from ≤ℤ (latest.to +ℤ pos 1)
  next_within = le_next from latest.to is.within

  latest_is : both_in join left right latest.to ≡ value_at latest latest.to
  latest_is = is.so_far.last.on latest.to is.so_far.last.some (le_same latest.to)

  pub continues : Continues join latest s t
  continues = record {
    s_from = left_head.from;
    t_from = right_head.from;
    s_to = left_head.to;
    t_to = right_head.to;
    s_tame = tame_part steep tall (value_in left) (value_at s) from last (latest.to +ℤ pos 1) (first_end s t) next_within end_within (λ n h k. sym (left_on n (after latest.to n h) k)) is.tame.left_tame;
    t_tame = tame_part steep tall (value_in right) (value_at t) from last (latest.to +ℤ pos 1) (first_end s t) next_within end_within (λ n h k. sym (right_on n (after latest.to n h) k)) is.tame.right_tame;
    tame = tame_part steep tall (both_in join left right) (both_at join s t) from last (latest.to +ℤ pos 1) (first_end s t) next_within end_within (λ n h k. sym (both_on n (after latest.to n h) k)) is.tame.tame;
    step = λ lt.
        subst (λ v. IsStep steep v (both_at join s t (latest.to +ℤ pos 1))) latest_is
        (subst (λ v. IsStep steep (both_in join left right latest.to) v) (both_on (latest.to +ℤ pos 1) (after latest.to (latest.to +ℤ pos 1) (le_same (latest.to +ℤ pos 1))) (next_le latest.to (first_end s t) lt))
        (is.tame.tame.steps latest.to is.within (before latest.to (first_end s t) last lt end_within)));
  }

  pub read_on : (longer : List Stretch) (later : Stretch) (lefts rights : List Stretch) → Added (both_at join s t) (first_end s t) done latest longer later →
      (s.to ≡ later.to → lefts ≡ left_rest) → (s.to ≢ later.to → lefts ≡ s ∷ left_rest) → (t.to ≡ later.to → rights ≡ right_rest) → (t.to ≢ later.to → rights ≡ t ∷ right_rest) → IsRead join left right from last lefts rights longer later
  read_on longer later lefts rights added s_ended s_going t_ended t_going = record {
    tame = is.tame;
    within = le_at from (first_end s t) later.to (le_through from latest.to (first_end s t) is.within end_after) (sym added.ends);
    left_ahead = read_up_to (value_in left) last latest.to later.to s left_rest lefts (le_at latest.to (first_end s t) later.to end_after (sym added.ends)) (at_le later.to (first_end s t) s.to added.ends (min_left s.to t.to)) s_ended s_going left_head;
    right_ahead = read_up_to (value_in right) last latest.to later.to t right_rest rights (le_at latest.to (first_end s t) later.to end_after (sym added.ends)) (at_le later.to (first_end s t) t.to added.ends (min_right s.to t.to)) t_ended t_going right_head;
    so_far = added.adds.so_far (both_in join left right) from (λ n gt le. both_on n gt (le_at n later.to (first_end s t) le added.ends)) is.so_far;
  }

-- ---- to the end

pub left_read : (join : Join) (left right : List Stretch) (from last : ℤ) (right_rest done : List Stretch) (latest : Stretch) → IsRead join left right from last [] right_rest done latest → (latest.to ≡ last) × AreSoFar (both_in join left right) from done latest
left_read join left right from last right_rest done latest is = (none_ahead (value_in left) last latest.to is.left_ahead, is.so_far)

pub right_read : (join : Join) (left right : List Stretch) (from last : ℤ) (left_rest done : List Stretch) (latest : Stretch) → IsRead join left right from last left_rest [] done latest → (latest.to ≡ last) × AreSoFar (both_in join left right) from done latest
right_read join left right from last left_rest done latest is = (none_ahead (value_in right) last latest.to is.right_ahead, is.so_far)

three_ways : (a b : ℤ) → (a <ℤ b) ⊎ ((a ≡ b) ⊎ (b <ℤ a))
three_ways a b = grind (arith, ints)

min_at_first : (a b x : ℤ) → x ≡ int_min a b → a <ℤ b → a ≡ x
min_at_first a b x e h = omega (arith, ints, clamps, e, h)

min_not_second : (a b x : ℤ) → x ≡ int_min a b → a <ℤ b → b ≡ x → ⊥
min_not_second a b x e h f = omega (arith, ints, clamps, e, h, f)

min_at_both : (a b x : ℤ) → x ≡ int_min a b → a ≡ b → a ≡ x
min_at_both a b x e h = omega (arith, ints, clamps, e, h)

min_at_other : (a b x : ℤ) → x ≡ int_min a b → a ≡ b → b ≡ x
min_at_other a b x e h = omega (arith, ints, clamps, e, h)

min_at_second : (a b x : ℤ) → x ≡ int_min a b → b <ℤ a → b ≡ x
min_at_second a b x e h = omega (arith, ints, clamps, e, h)

min_not_first : (a b x : ℤ) → x ≡ int_min a b → b <ℤ a → a ≡ x → ⊥
min_not_first a b x e h f = omega (arith, ints, clamps, e, h, f)

both_fewer : (m n i j k l : ℕ) → i < m → j < n → k ≡ i + 1 → l ≡ j + 1 → (m - k) + (n - l) < (m - i) + (n - j)
both_fewer m n i j k l h g e f = omega (arith, h, g, e, f)

first_fewer : (m n i j k l : ℕ) → i < m → j < n → k ≡ i + 1 → l ≡ j → (m - k) + (n - l) < (m - i) + (n - j)
first_fewer m n i j k l h g e f = omega (arith, h, g, e, f)

second_fewer : (m n i j k l : ℕ) → i < m → j < n → k ≡ i → l ≡ j + 1 → (m - k) + (n - l) < (m - i) + (n - j)
second_fewer m n i j k l h g e f = omega (arith, h, g, e, f)

-- ---- by their places

pub at_place : (list : List Stretch) (i : ℕ) (s : Stretch) → i < length list → s ≡ slice_index_or list i s → drop i list ≡ s ∷ drop (i + 1) list
at_place list i s h e = drop_more list i s h ∙ ap (λ x. x ∷ drop (i + 1) list) (sym e)

module _ (join : Join) (left right : List Stretch) (i j : ℕ) (s t : Stretch) (done : List Stretch) (latest : Stretch) (i_in : i < length left) (j_in : j < length right) (s_is : s ≡ slice_index_or left i s) (t_is : t ≡ slice_index_or right j t) where
  heads_read : (from last : ℤ) → IsRead join left right from last (drop i left) (drop j right) done latest → IsRead join left right from last (s ∷ drop (i + 1) left) (t ∷ drop (j + 1) right) done latest
  heads_read from last is = subst (λ xs. IsRead join left right from last xs (t ∷ drop (j + 1) right) done latest) (at_place left i s i_in s_is)
      (subst (λ ys. IsRead join left right from last (drop i left) ys done latest) (at_place right j t j_in t_is) is)

  pub continues_at : IsReading join left right (drop i left) (drop j right) done latest → Continues join latest s t
  continues_at reading = continues join left right reading.from reading.last s t (drop (i + 1) left) (drop (j + 1) right) done latest (heads_read reading.from reading.last reading.read)

  module _ (longer : List Stretch) (later : Stretch) (i_next j_next : ℕ) (added : Added (both_at join s t) (first_end s t) done latest longer later) (s_ended : s.to ≡ later.to → i_next ≡ i + 1) (s_going : s.to ≢ later.to → i_next ≡ i) (t_ended : t.to ≡ later.to → j_next ≡ j + 1) (t_going : t.to ≢ later.to → j_next ≡ j) where
    pub reads_on : (from last : ℤ) → IsRead join left right from last (drop i left) (drop j right) done latest → IsRead join left right from last (drop i_next left) (drop j_next right) longer later
    reads_on from last is = read_on join left right from last s t (drop (i + 1) left) (drop (j + 1) right) done latest (heads_read from last is) longer later (drop i_next left) (drop j_next right) added
        (λ e. ap (λ x. drop x left) (s_ended e)) (λ ne. ap (λ x. drop x left) (s_going ne) ∙ at_place left i s i_in s_is)
        (λ e. ap (λ x. drop x right) (t_ended e)) (λ ne. ap (λ x. drop x right) (t_going ne) ∙ at_place right j t j_in t_is)

    pub reading_on : IsReading join left right (drop i left) (drop j right) done latest → IsReading join left right (drop i_next left) (drop j_next right) longer later
    reading_on reading = record { from = reading.from; last = reading.last; read = reads_on reading.from reading.last reading.read }

    pub fewer_left : (length left - i_next) + (length right - j_next) < (length left - i) + (length right - j)
    fewer_left = elim (three_ways s.to t.to) [
      | inl lt ↦ first_fewer (length left) (length right) i j i_next j_next i_in j_in (s_ended (min_at_first s.to t.to later.to added.ends lt)) (t_going (min_not_second s.to t.to later.to added.ends lt))
      | inr e ↦ elim e [
        | inl eq ↦ both_fewer (length left) (length right) i j i_next j_next i_in j_in (s_ended (min_at_both s.to t.to later.to added.ends eq)) (t_ended (min_at_other s.to t.to later.to added.ends eq))
        | inr gt ↦ second_fewer (length left) (length right) i j i_next j_next i_in j_in (s_going (min_not_first s.to t.to later.to added.ends gt)) (t_ended (min_at_second s.to t.to later.to added.ends gt))
      ]
    ]

no_rest : (list : List Stretch) (i : ℕ) → length list ≤ i → drop i list ≡ []
no_rest list i h = drop_all i list h

pub left_all : (join : Join) (left right : List Stretch) (i j : ℕ) (begun longer : List Stretch) (first later : Stretch) → length left ≤ i → ReadsOn join left right begun first (drop i left) (drop j right) longer later → ReadsAll join left right begun first longer later
left_all join left right i j begun longer first later h on = λ from last is. left_read join left right from last (drop j right) longer later (subst (λ xs. IsRead join left right from last xs (drop j right) longer later) (no_rest left i h) (on from last is))

pub right_all : (join : Join) (left right : List Stretch) (i j : ℕ) (begun longer : List Stretch) (first later : Stretch) → length right ≤ j → ReadsOn join left right begun first (drop i left) (drop j right) longer later → ReadsAll join left right begun first longer later
right_all join left right i j begun longer first later h on = λ from last is. right_read join left right from last (drop i left) longer later (subst (λ ys. IsRead join left right from last (drop i left) ys longer later) (no_rest right j h) (on from last is))
