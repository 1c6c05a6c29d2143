-- The stretches of a sum are fewer than those of both functions together.
--
-- f and g are the functions, x is the latest number that was read, and y is a later one.
use Rattle.std.proofs.Common.{◌≡◌, ◌<◌, ◌≤◌, ◌+◌, suc, ℕ, ℤ, pos, ◌+ℤ◌, ◌≤ℤ◌, ◌<ℤ◌, ◌⊎◌, inl, inr, List, [], ◌∷◌, length, refl, sym, ap, ap₂, ◌∙◌, arith}
use Rattle.std.proofs.lemmas.Int.{ints}
use Rattle.pb_cost_pieces.specs.declared.stretch.Stretch.{Stretch}
use Rattle.pb_cost_pieces.specs.Lines.{along, value_at, IsClosed, AreStretches, final, before}
use Rattle.pb_cost_pieces.proofs.Lines.{along_here, along_next, along_anew, along_sum}
use Rattle.pb_cost_pieces.proofs.Build.{at_first, at_next}
use Rattle.pb_cost_joins.specs.Merging.{Ahead, over, next}
use Rattle.pb_cost_joins.proofs.Counts.{in_order}

-- ---- where both lines go on, so does the sum

le_same : (x : ℤ) → x ≤ℤ x
le_same x = omega (arith, ints)

module _ (f g : ℤ → ℤ) (x : ℤ) (c s t : Stretch) (low : x <ℤ c.from) (closed : IsClosed (λ n. f n +ℤ g n) c) (f_on : (n : ℤ) → x <ℤ n → n ≤ℤ (c.to +ℤ pos 1) → f n ≡ value_at s n) (g_on : (n : ℤ) → x <ℤ n → n ≤ℤ (c.to +ℤ pos 1) → g n ≡ value_at t n) where
  abbrev start : ℤ
  start = value_at s c.from +ℤ value_at t c.from

  abbrev slope : ℤ
  slope = s.slope +ℤ t.slope

  sum_on : (n : ℤ) → x <ℤ n → n ≤ℤ (c.to +ℤ pos 1) → f n +ℤ g n ≡ along start slope c.from n
  sum_on n gt le =
      ap₂ (λ a b. a +ℤ b) (f_on n gt le ∙ sym (along_anew s.start s.slope s.from c.from n)) (g_on n gt le ∙ sym (along_anew t.start t.slope t.from c.from n))
      ∙ sym (along_sum (value_at s c.from) (value_at t c.from) s.slope t.slope c.from n)

  first_in : (a b : ℤ) → a <ℤ b → a ≤ℤ (b +ℤ pos 1)
  first_in a b h = omega (arith, ints, h)

  second_in : (a b : ℤ) → a <ℤ b → (a +ℤ pos 1) ≤ℤ (b +ℤ pos 1)
  second_in a b h = omega (arith, ints, h)

  second_to : (a b : ℤ) → a <ℤ b → (a +ℤ pos 1) ≤ℤ b
  second_to a b h = omega (arith, ints, h)

  second_from : (a : ℤ) → a ≤ℤ (a +ℤ pos 1)
  second_from a = omega (arith, ints)

  second_after : (a b : ℤ) → a <ℤ b → a <ℤ (b +ℤ pos 1)
  second_after a b h = omega (arith, ints, h)

  last_after : (a b d : ℤ) → a <ℤ b → b <ℤ d → a <ℤ (d +ℤ pos 1)
  last_after a b d h k = omega (arith, ints, h, k)

  weaker : (a b : ℤ) → a <ℤ b → a ≤ℤ b
  weaker a b h = omega (arith, ints, h)

  start_is : start ≡ c.start
  start_is = sym (along_here start slope c.from) ∙ sym (sum_on c.from low (first_in c.from c.to closed.long)) ∙ closed.on c.from (le_same c.from) (weaker c.from c.to closed.long) ∙ at_first c c.from refl

  second_is : start +ℤ slope ≡ c.start +ℤ c.slope
  second_is =
      sym (along_next start slope c.from c.from ∙ ap (λ v. v +ℤ slope) (along_here start slope c.from))
      ∙ sym (sum_on (c.from +ℤ pos 1) (second_after x c.from low) (second_in c.from c.to closed.long))
      ∙ closed.on (c.from +ℤ pos 1) (second_from c.from) (second_to c.from c.to closed.long)
      ∙ at_next c (c.from +ℤ pos 1) c.from refl
      ∙ ap (λ v. v +ℤ c.slope) (at_first c c.from refl)

  slope_is : slope ≡ c.slope
  slope_is = same_added start c.start slope c.slope start_is second_is where
    same_added : (a b p q : ℤ) → a ≡ b → a +ℤ p ≡ b +ℤ q → p ≡ q
    same_added a b p q e h = omega (arith, ints, e, h)

  both_go_on : ⊥
  both_go_on = closed.ends
      (sum_on (c.to +ℤ pos 1) (last_after x c.from c.to low closed.long) (le_same (c.to +ℤ pos 1))
      ∙ ap (λ v. along v slope c.from (c.to +ℤ pos 1)) start_is
      ∙ ap (λ v. along c.start v c.from (c.to +ℤ pos 1)) slope_is)

-- ---- read on, up to a number

-- up to the number behind y the function is one line
record GoesPast (f : ℤ → ℤ) (x y : ℤ) : Type 0 where
  s : Stretch
  on : (n : ℤ) → x <ℤ n → n ≤ℤ (y +ℤ pos 1) → f n ≡ value_at s n

-- the stretches behind y are fewer, or the first one goes past it
record Forward (f : ℤ → ℤ) (last x y : ℤ) (list : List Stretch) : Type 0 where
  rest : List Stretch
  ahead : Ahead f last y rest
  no_longer : length rest ≤ length list
  turned : (length rest < length list) ⊎ GoesPast f x y

up_to_or_after : (n m : ℤ) → (n ≤ℤ m) ⊎ (m <ℤ n)
up_to_or_after n m = grind (arith, ints)

later_from : (from x y : ℤ) → from ≤ℤ (x +ℤ pos 1) → x ≤ℤ y → from ≤ℤ (y +ℤ pos 1)
later_from from x y h k = omega (arith, ints, h, k)

later : (x y n : ℤ) → x ≤ℤ y → y <ℤ n → x <ℤ n
later x y n h k = omega (arith, ints, h, k)

to_end : (y to n : ℤ) → y <ℤ to → n ≤ℤ (y +ℤ pos 1) → n ≤ℤ to
to_end y to n h k = omega (arith, ints, h, k)

at_end : (y to : ℤ) → y <ℤ to → y ≤ℤ to
at_end y to h = omega (arith, ints, h)

le_suc : (a b : ℕ) → a ≤ b → a ≤ suc b
le_suc a b h = omega (arith, h)

lt_suc : (a b : ℕ) → a ≤ b → a < suc b
lt_suc a b h = omega (arith, h)

le_self : (a : ℕ) → a ≤ a
le_self a = omega arith

forward_by : (f : ℤ → ℤ) (last x y : ℤ) (s : Stretch) (rest : List Stretch) → x ≤ℤ y → s.from ≤ℤ (x +ℤ pos 1) → ((n : ℤ) → x <ℤ n → n ≤ℤ s.to → f n ≡ value_at s n) → Ahead f last s.to rest → (s.to ≤ℤ y → Forward f last s.to y rest) → (s.to ≤ℤ y) ⊎ (y <ℤ s.to) → Forward f last x y (s ∷ rest)
forward_by f last x y s rest low from on behind go (inl le) =
    let there = go le in
    record { rest = there.rest; ahead = there.ahead; no_longer = le_suc (length there.rest) (length rest) there.no_longer; turned = inl (lt_suc (length there.rest) (length rest) there.no_longer) }
forward_by f last x y s rest low from on behind go (inr gt) = record {
  rest = s ∷ rest;
  ahead = next y s rest (later_from s.from x y from low) (at_end y s.to gt) (λ n h k. on n (later x y n low h) k) behind;
  no_longer = le_self (length (s ∷ rest));
  turned = inr (record { s = s; on = λ n h k. on n h (to_end y s.to n gt k) });
}

ended : (x y last : ℤ) → x ≤ℤ y → y <ℤ last → x ≡ last → ⊥
ended x y last h k e = omega (arith, ints, h, k, e)

forward : (f : ℤ → ℤ) (last x y : ℤ) (list : List Stretch) → x ≤ℤ y → y <ℤ last → Ahead f last x list → Forward f last x y list
forward f last x y [] low high (over _ e) = absurd (ended x y last low high e)
forward f last x y (s ∷ rest) low high (next _ _ _ from to on behind) = forward_by f last x y s rest low from on behind (λ le. forward f last s.to y rest le high behind) (up_to_or_after s.to y)

-- ---- all of them

some_ahead : (f : ℤ → ℤ) (last x : ℤ) (list : List Stretch) → x <ℤ last → Ahead f last x list → 0 < length list
some_ahead f last x [] h (over _ e) = absurd (none x last h e) where
  none : (a b : ℤ) → a <ℤ b → a ≡ b → ⊥
  none a b h e = omega (arith, ints, h, e)
some_ahead f last x (s ∷ rest) h (next _ _ _ from to on behind) = omega arith

one_and_one : (a b : ℕ) → 0 < a → 0 < b → 1 < a + b
one_and_one a b h k = omega (arith, h, k)

fewer : (l r p q k : ℕ) → p ≤ l → q ≤ r → (p < l) ⊎ (q < r) → k < p + q → suc k < l + r
fewer l r p q k h g (inl lt) e = omega (arith, g, lt, e)
fewer l r p q k h g (inr lt) e = omega (arith, h, lt, e)

before_last : (x from c_from c_to last : ℤ) → x <ℤ from → c_from ≡ from → c_from ≤ℤ c_to → c_to ≡ last → x <ℤ last
before_last x from c_from c_to last h e k d = omega (arith, ints, h, e, k, d)

first_below : (x from c_from : ℤ) → x <ℤ from → c_from ≡ from → x <ℤ c_from
first_below x from c_from h e = omega (arith, ints, h, e)

read_to : (x c_from c_to : ℤ) → x <ℤ c_from → c_from <ℤ c_to → x ≤ℤ c_to
read_to x c_from c_to h k = omega (arith, ints, h, k)

last_behind : (c_to last : ℤ) → (c_to +ℤ pos 1) ≤ℤ last → c_to <ℤ last
last_behind c_to last h = omega (arith, ints, h)

lt_next : (x : ℤ) → x <ℤ (x +ℤ pos 1)
lt_next x = omega (arith, ints)

module _ (f g : ℤ → ℤ) where
  one_turns : (x : ℤ) (c : Stretch) → x <ℤ c.from → IsClosed (λ n. f n +ℤ g n) c → (p l q r : ℕ) → (p < l) ⊎ GoesPast f x c.to → (q < r) ⊎ GoesPast g x c.to → (p < l) ⊎ (q < r)
  one_turns x c low closed p l q r (inl lt) right = inl lt
  one_turns x c low closed p l q r (inr past) (inl lt) = inr lt
  one_turns x c low closed p l q r (inr past) (inr beyond) = absurd (both_go_on f g x c past.s beyond.s low closed past.on beyond.on)

  pub shorter : (last from x : ℤ) (list left right : List Stretch) → x <ℤ from → AreStretches (λ n. f n +ℤ g n) last from list → Ahead f last x left → Ahead g last x right → length list < length left + length right
  shorter last from x [] left right low are a b = elim are [ ]
  shorter last from x (c ∷ []) left right low (final _ _ c_from c_to is) a b =
      let lt = before_last x from c.from c.to last low c_from is.some c_to in
      one_and_one (length left) (length right) (some_ahead f last x left lt a) (some_ahead g last x right lt b)
  shorter last from x (c ∷ rest) left right low (before _ _ _ c_from is behind) a b =
      let here = first_below x from c.from low c_from in
      let high = last_behind c.to last (in_order (λ n. f n +ℤ g n) last (c.to +ℤ pos 1) rest behind) in
      let l = forward f last x c.to left (read_to x c.from c.to here is.long) high a in
      let r = forward g last x c.to right (read_to x c.from c.to here is.long) high b in
      fewer (length left) (length right) (length l.rest) (length r.rest) (length rest) l.no_longer r.no_longer
      (one_turns x c here is (length l.rest) (length left) (length r.rest) (length right) l.turned r.turned)
      (shorter last (c.to +ℤ pos 1) c.to rest l.rest r.rest (lt_next c.to) behind l.ahead r.ahead)
