-- From 820,004,100,000 on the count of a block is one line.
--
-- u and w are weights, and v is a number of values.
use Rattle.std.proofs.Common.{◌≡◌, ◌≤◌, ◌+◌, ◌*◌, ℕ, Bool, true, false, ◌&&◌, ◌⊎◌, inl, inr, min, max, ℤ, pos, negsuc, ◌+ℤ◌, ◌-ℤ◌, ◌*ℤ◌, ◌≤ℤ◌, int_le, refl, sym, ap, ◌∙◌, subst, arith, mul-le-mul}
use Rattle.std.proofs.lemmas.Int.{ints}
use Rattle.std.proofs.lemmas.Bool.{and_parts}
use lib.IntN.{zero-*ℤ, *ℤ_comm}
use Rattle.pb_affine.specs.declared.lin.Base.{Base}
use Rattle.pb_affine.specs.declared.lin.Base.TheVariants.{Fixed, Param, Var}
use Rattle.pb_affine.specs.Values.{value, base_value, count_of}
use Rattle.pb_core_language.specs.Sound.{is_bound, is_over_n, is_small}
use Rattle.pb_core_language.specs.Tree.{StmtTree, message, foreach, loop, again, choice, run, barrier, broadcast, reduce, allreduce, BlockTree, nothing, more, BranchTrees, no_branch, branch}
use Rattle.pb_cost_pieces.proofs.Products.{sum_times, times_sum_is}
use Rattle.pb_cost_laws.specs.Sent.{Counted, Way, Least, Most, picked}
use Rattle.pb_cost_laws.specs.Flats.{of_label}
use Rattle.pb_cost_laws.specs.Trees.{of_stmt, of_block, of_branches, behind}
use Rattle.pb_cost_blocks.specs.Fit.{weight_of_stmt, weight_of, weight_of_branches, is_fit_stmt, is_fit, are_fit, are_items}
use Rattle.pb_cost_blocks.proofs.Products.{times_le}
use Rattle.pb_cost_blocks.proofs.Foreachs.{small_low, small_high, same_sum, items_once}
use Rattle.pb_cost.proofs.Convert.{Straightens}

-- a line from there on, which begins within 200,001 times the weight
pub record Tail (w : ℕ) (f : ℤ → ℕ) : Type 0 where
  pub a : ℤ
  pub b : ℤ
  pub low : pos 0 ≤ℤ (b +ℤ pos w *ℤ pos 200001)
  pub high : b ≤ℤ (pos w *ℤ pos 200001)
  pub is : (n : ℤ) → pos 820004100000 ≤ℤ n → pos (f n) ≡ a *ℤ n +ℤ b

tail_as : (w : ℕ) (f g : ℤ → ℕ) → ((n : ℤ) → pos 820004100000 ≤ℤ n → g n ≡ f n) → Tail w f → Tail w g
tail_as w f g same t = record { a = t.a; b = t.b; low = t.low; high = t.high; is = λ n h. ap pos (same n h) ∙ t.is n h }

heavier_low : (b : ℤ) (u w : ℕ) → u ≤ w → pos 0 ≤ℤ (b +ℤ pos u *ℤ pos 200001) → pos 0 ≤ℤ (b +ℤ pos w *ℤ pos 200001)
heavier_low b u w h k = omega (arith, ints, h, k)

heavier_high : (b : ℤ) (u w : ℕ) → u ≤ w → b ≤ℤ (pos u *ℤ pos 200001) → b ≤ℤ (pos w *ℤ pos 200001)
heavier_high b u w h k = omega (arith, ints, h, k)

tail_heavier : (u w : ℕ) (f : ℤ → ℕ) → u ≤ w → Tail u f → Tail w f
tail_heavier u w f h t = record { a = t.a; b = t.b; low = heavier_low t.b u w h t.low; high = heavier_high t.b u w h t.high; is = t.is }

flat_is : (p x : ℤ) → p ≡ pos 0 → x ≡ p +ℤ x
flat_is p x e = omega (arith, ints, e)

flat_low : (k w : ℕ) → pos 0 ≤ℤ (pos k +ℤ pos w *ℤ pos 200001)
flat_low k w = omega (arith, ints)

flat_high : (k w : ℕ) → k ≤ w * 200001 → pos k ≤ℤ (pos w *ℤ pos 200001)
flat_high k w h = omega (arith, ints, h)

-- the same number
tail_flat : (w k : ℕ) → k ≤ w * 200001 → Tail w (λ n. k)
tail_flat w k h = record { a = pos 0; b = pos k; low = flat_low k w; high = flat_high k w h; is = λ n _. flat_is (pos 0 *ℤ n) (pos k) (zero-*ℤ n) }

own_weight : (w : ℕ) → w ≤ w * 200001
own_weight w = omega arith

-- ---- sums

both_is : (x y : ℕ) (p q b c z : ℤ) → pos x ≡ p +ℤ b → pos y ≡ q +ℤ c → z ≡ p +ℤ q → pos (x + y) ≡ z +ℤ (b +ℤ c)
both_is x y p q b c z e f g = omega (arith, ints, e, f, g)

both_low : (b c : ℤ) (u w : ℕ) → pos 0 ≤ℤ (b +ℤ pos u *ℤ pos 200001) → pos 0 ≤ℤ (c +ℤ pos w *ℤ pos 200001) → pos 0 ≤ℤ ((b +ℤ c) +ℤ pos (u + w) *ℤ pos 200001)
both_low b c u w h k = omega (arith, ints, h, k)

both_high : (b c : ℤ) (u w : ℕ) → b ≤ℤ (pos u *ℤ pos 200001) → c ≤ℤ (pos w *ℤ pos 200001) → (b +ℤ c) ≤ℤ (pos (u + w) *ℤ pos 200001)
both_high b c u w h k = omega (arith, ints, h, k)

tail_sum : (u w : ℕ) (f g : ℤ → ℕ) → Tail u f → Tail w g → Tail (u + w) (λ n. f n + g n)
tail_sum u w f g s t = record {
  a = s.a +ℤ t.a;
  b = s.b +ℤ t.b;
  low = both_low s.b t.b u w s.low t.low;
  high = both_high s.b t.b u w s.high t.high;
  is = λ n h. both_is (f n) (g n) (s.a *ℤ n) (t.a *ℤ n) s.b t.b ((s.a +ℤ t.a) *ℤ n) (s.is n h) (t.is n h) (sum_times s.a t.a n);
}

-- ---- one of two lines is below the other

abbrev Below : (ℤ → ℕ) → (ℤ → ℕ) → Type 0
Below f g = (n : ℤ) → pos 820004100000 ≤ℤ n → f n ≤ g n

steeper : (a c : ℤ) → (a +ℤ pos 1) ≤ℤ c → pos 1 ≤ℤ (c -ℤ a)
steeper a c h = omega (arith, ints, h)

slope_gap : (a c : ℤ) → c ≡ a +ℤ (c -ℤ a)
slope_gap a c = omega (arith, ints)

high_natural : (n : ℤ) → pos 820004100000 ≤ℤ n → pos 0 ≤ℤ n
high_natural n h = omega (arith, ints, h)

below_far : (x y : ℕ) (p q r b c n m : ℤ) (u w : ℕ) → pos x ≡ p +ℤ b → pos y ≡ q +ℤ c → q ≡ p +ℤ r → m ≤ℤ r → m ≡ n → pos 820004100000 ≤ℤ n → (u + w) ≤ 4100000 → b ≤ℤ (pos u *ℤ pos 200001) → pos 0 ≤ℤ (c +ℤ pos w *ℤ pos 200001) → x ≤ y
below_far x y p q r b c n m u w e1 e2 e3 h1 e4 h2 h3 h4 h5 = omega (arith, ints, e1, e2, e3, h1, e4, h2, h3, h4, h5)

times_one : (n : ℤ) → n *ℤ pos 1 ≡ n
times_one n = omega (arith, ints)

less_steep : (u w : ℕ) (f g : ℤ → ℕ) (s : Tail u f) (t : Tail w g) → (u + w) ≤ 4100000 → (s.a +ℤ pos 1) ≤ℤ t.a → Below f g
less_steep u w f g s t light h = λ n far.
    below_far (f n) (g n) (s.a *ℤ n) (t.a *ℤ n) ((t.a -ℤ s.a) *ℤ n) s.b t.b n (n *ℤ pos 1) u w (s.is n far) (t.is n far)
    (ap (λ z. z *ℤ n) (slope_gap s.a t.a) ∙ sum_times s.a (t.a -ℤ s.a) n)
    (subst (λ z. (n *ℤ pos 1) ≤ℤ z) (*ℤ_comm n (t.a -ℤ s.a)) (times_le n (pos 1) (t.a -ℤ s.a) (high_natural n far) (steeper s.a t.a h)))
    (times_one n) far light s.high t.low

below_by_start : (x y : ℕ) (p q b c : ℤ) → pos x ≡ p +ℤ b → pos y ≡ q +ℤ c → p ≡ q → b ≤ℤ c → x ≤ y
below_by_start x y p q b c e1 e2 e3 h = omega (arith, ints, e1, e2, e3, h)

as_steep : (u w : ℕ) (f g : ℤ → ℕ) (s : Tail u f) (t : Tail w g) → s.a ≡ t.a → s.b ≤ℤ t.b → Below f g
as_steep u w f g s t same h = λ n far. below_by_start (f n) (g n) (s.a *ℤ n) (t.a *ℤ n) s.b t.b (s.is n far) (t.is n far) (ap (λ z. z *ℤ n) same) h

le_true : (x y : ℤ) → int_le x y ≡ true → x ≤ℤ y
le_true x y h = omega (arith, ints, h)

le_false : (x y : ℤ) → int_le x y ≡ false → y ≤ℤ x
le_false x y h = omega (arith, ints, h)

neither : (a c : ℤ) → int_le (a +ℤ pos 1) c ≡ false → int_le (c +ℤ pos 1) a ≡ false → a ≡ c
neither a c h k = omega (arith, ints, h, k)

swapped : (u w : ℕ) → (u + w) ≤ 4100000 → (w + u) ≤ 4100000
swapped u w h = omega (arith, h)

ordered : (u w : ℕ) (f g : ℤ → ℕ) (s : Tail u f) (t : Tail w g) → (u + w) ≤ 4100000 → (x y z : Bool) → int_le (s.a +ℤ pos 1) t.a ≡ x → int_le (t.a +ℤ pos 1) s.a ≡ y → int_le s.b t.b ≡ z → Below f g ⊎ Below g f
ordered u w f g s t light true y z ex ey ez = inl (less_steep u w f g s t light (le_true (s.a +ℤ pos 1) t.a ex))
ordered u w f g s t light false true z ex ey ez = inr (less_steep w u g f t s (swapped u w light) (le_true (t.a +ℤ pos 1) s.a ey))
ordered u w f g s t light false false true ex ey ez = inl (as_steep u w f g s t (neither s.a t.a ex ey) (le_true s.b t.b ez))
ordered u w f g s t light false false false ex ey ez = inr (as_steep w u g f t s (sym (neither s.a t.a ex ey)) (le_false s.b t.b ez))

min_left : (x y : ℕ) → x ≤ y → min x y ≡ x
min_left x y h = omega (arith, h)

min_right : (x y : ℕ) → y ≤ x → min x y ≡ y
min_right x y h = omega (arith, h)

max_left : (x y : ℕ) → y ≤ x → max x y ≡ x
max_left x y h = omega (arith, h)

max_right : (x y : ℕ) → x ≤ y → max x y ≡ y
max_right x y h = omega (arith, h)

left_weight : (u w : ℕ) → u ≤ u + w
left_weight u w = omega arith

right_weight : (u w : ℕ) → w ≤ u + w
right_weight u w = omega arith

picked_by : (way : Way) (u w : ℕ) (f g : ℤ → ℕ) → Tail u f → Tail w g → Below f g ⊎ Below g f → Tail (u + w) (λ n. picked way (f n) (g n))
picked_by Least u w f g s t (inl h) = tail_as (u + w) f (λ n. min (f n) (g n)) (λ n far. min_left (f n) (g n) (h n far)) (tail_heavier u (u + w) f (left_weight u w) s)
picked_by Least u w f g s t (inr h) = tail_as (u + w) g (λ n. min (f n) (g n)) (λ n far. min_right (f n) (g n) (h n far)) (tail_heavier w (u + w) g (right_weight u w) t)
picked_by Most u w f g s t (inl h) = tail_as (u + w) g (λ n. max (f n) (g n)) (λ n far. max_right (f n) (g n) (h n far)) (tail_heavier w (u + w) g (right_weight u w) t)
picked_by Most u w f g s t (inr h) = tail_as (u + w) f (λ n. max (f n) (g n)) (λ n far. max_left (f n) (g n) (h n far)) (tail_heavier u (u + w) f (left_weight u w) s)

tail_picked : (way : Way) (u w : ℕ) (f g : ℤ → ℕ) → Tail u f → Tail w g → (u + w) ≤ 4100000 → Tail (u + w) (λ n. picked way (f n) (g n))
tail_picked way u w f g s t light = picked_by way u w f g s t (ordered u w f g s t light (int_le (s.a +ℤ pos 1) t.a) (int_le (t.a +ℤ pos 1) s.a) (int_le s.b t.b) refl refl refl)

-- ---- a foreach

few_high : (k once : ℕ) → k ≤ 200001 → k * once ≤ once * 200001
few_high k once h = turned (k * once) once (mul-le-mul h (le_same once)) where
  le_same : (x : ℕ) → x ≤ x
  le_same x = omega arith

  turned : (p once : ℕ) → p ≤ 200001 * once → p ≤ once * 200001
  turned p once h = omega (arith, h)

nat_few : (k : ℕ) → pos k ≤ℤ pos 200001 → k ≤ 200001
nat_few k h = omega (arith, ints, h)

-- as many values at each N
tail_values : (once : ℕ) (v : ℤ) → v ≤ℤ pos 200001 → Tail once (λ n. count_of v * once)
tail_values once (pos k) h = tail_flat once (k * once) (few_high k once (nat_few k h))
tail_values once (negsuc k) h = tail_flat once (0 * once) (few_high 0 once (omega arith))

natural_count : (v : ℤ) → pos 0 ≤ℤ v → pos (count_of v) ≡ v
natural_count (pos k) h = refl
natural_count (negsuc k) h = absurd (below k h) where
  below : (k : ℕ) → pos 0 ≤ℤ negsuc k → ⊥
  below k h = omega (arith, ints, h)

nothing_of : (k : ℕ) → pos k ≤ℤ pos 0 → k ≡ 0
nothing_of k h = omega (arith, ints, h)

no_count : (v : ℤ) → v ≤ℤ pos 0 → count_of v ≡ 0
no_count (pos k) h = nothing_of k h
no_count (negsuc k) h = refl

grows_low : (p q w : ℤ) → (w *ℤ negsuc 200000) ≤ℤ p → pos 0 ≤ℤ (p +ℤ w *ℤ pos 200001)
grows_low p q w h = omega (arith, ints, h)

plus_natural : (n c : ℤ) → pos 820004100000 ≤ℤ n → negsuc 200000 ≤ℤ c → pos 0 ≤ℤ (n +ℤ c)
plus_natural n c h k = omega (arith, ints, h, k)

weight_natural : (once : ℕ) → pos 0 ≤ℤ pos once
weight_natural once = omega (arith, ints)

-- one value more at each N
tail_grows : (once : ℕ) (c : ℤ) → negsuc 200000 ≤ℤ c → c ≤ℤ pos 200001 → Tail once (λ n. count_of (n +ℤ c) * once)
tail_grows once c low high = record {
  a = pos once;
  b = pos once *ℤ c;
  low = grows_low (pos once *ℤ c) (pos 0) (pos once) (times_le (pos once) (negsuc 200000) c (weight_natural once) low);
  high = times_le (pos once) c (pos 200001) (weight_natural once) high;
  is = λ n far.
      ap (λ v. v *ℤ pos once) (natural_count (n +ℤ c) (plus_natural n c far low))
      ∙ *ℤ_comm (n +ℤ c) (pos once)
      ∙ times_sum_is (pos once) n c (n +ℤ c) refl;
}

minus_low : (n c : ℤ) → pos 820004100000 ≤ℤ n → c ≤ℤ pos 200001 → (c -ℤ n) ≤ℤ pos 0
minus_low n c h k = omega (arith, ints, h, k)

-- one value less, and so none from there on
tail_falls : (once : ℕ) (c : ℤ) → c ≤ℤ pos 200001 → Tail once (λ n. count_of (c -ℤ n) * once)
tail_falls once c high = tail_as once (λ n. 0 * once) (λ n. count_of (c -ℤ n) * once) (λ n far. ap (λ k. k * once) (no_count (c -ℤ n) (minus_low n c far high))) (tail_flat once (0 * once) (few_high 0 once (omega arith)))

gap_low : (l h : ℤ) → l ≤ℤ pos 100000 → negsuc 99999 ≤ℤ h → negsuc 200000 ≤ℤ ((h +ℤ pos 1) -ℤ l)
gap_low l h a b = omega (arith, ints, a, b)

gap_high : (l h : ℤ) → negsuc 99999 ≤ℤ l → h ≤ℤ pos 100000 → ((h +ℤ pos 1) -ℤ l) ≤ℤ pos 200001
gap_high l h a b = omega (arith, ints, a, b)

fixed_gap : (l h : ℤ) → ((h +ℤ pos 0) +ℤ pos 1) -ℤ (l +ℤ pos 0) ≡ (h +ℤ pos 1) -ℤ l
fixed_gap l h = omega (arith, ints)

param_gap : (l h n : ℤ) → ((h +ℤ n) +ℤ pos 1) -ℤ (l +ℤ n) ≡ (h +ℤ pos 1) -ℤ l
param_gap l h n = omega (arith, ints)

growing_gap : (l h n : ℤ) → ((h +ℤ n) +ℤ pos 1) -ℤ (l +ℤ pos 0) ≡ n +ℤ ((h +ℤ pos 1) -ℤ l)
growing_gap l h n = omega (arith, ints)

falling_gap : (l h n : ℤ) → ((h +ℤ pos 0) +ℤ pos 1) -ℤ (l +ℤ n) ≡ ((h +ℤ pos 1) -ℤ l) -ℤ n
falling_gap l h n = omega (arith, ints)

counted_as : (once : ℕ) (u v : ℤ → ℤ) → ((n : ℤ) → v n ≡ u n) → Tail once (λ n. count_of (u n) * once) → Tail once (λ n. count_of (v n) * once)
counted_as once u v same t = tail_as once (λ n. count_of (u n) * once) (λ n. count_of (v n) * once) (λ n far. ap (λ x. count_of x * once) (same n)) t

no_var : {A : Type 0} → is_over_n Var ≡ true → A
no_var e = absurd (let f : false ≡ true = e in cc)

tail_between : (once : ℕ) (lb hb : Base) (l h : ℤ) → is_over_n lb ≡ true → is_over_n hb ≡ true → is_small l ≡ true → is_small h ≡ true → Tail once (λ n. count_of (((h +ℤ base_value hb n (pos 0)) +ℤ pos 1) -ℤ (l +ℤ base_value lb n (pos 0))) * once)
tail_between once Fixed Fixed l h _ _ sl sh = counted_as once (λ n. (h +ℤ pos 1) -ℤ l) (λ n. ((h +ℤ pos 0) +ℤ pos 1) -ℤ (l +ℤ pos 0)) (λ n. fixed_gap l h) (tail_values once ((h +ℤ pos 1) -ℤ l) (gap_high l h (small_low l sl) (small_high h sh)))
tail_between once Param Param l h _ _ sl sh = counted_as once (λ n. (h +ℤ pos 1) -ℤ l) (λ n. ((h +ℤ n) +ℤ pos 1) -ℤ (l +ℤ n)) (λ n. param_gap l h n) (tail_values once ((h +ℤ pos 1) -ℤ l) (gap_high l h (small_low l sl) (small_high h sh)))
tail_between once Fixed Param l h _ _ sl sh = counted_as once (λ n. n +ℤ ((h +ℤ pos 1) -ℤ l)) (λ n. ((h +ℤ n) +ℤ pos 1) -ℤ (l +ℤ pos 0)) (λ n. growing_gap l h n) (tail_grows once ((h +ℤ pos 1) -ℤ l) (gap_low l h (small_high l sl) (small_low h sh)) (gap_high l h (small_low l sl) (small_high h sh)))
tail_between once Param Fixed l h _ _ sl sh = counted_as once (λ n. ((h +ℤ pos 1) -ℤ l) -ℤ n) (λ n. ((h +ℤ pos 0) +ℤ pos 1) -ℤ (l +ℤ n)) (λ n. falling_gap l h n) (tail_falls once ((h +ℤ pos 1) -ℤ l) (gap_high l h (small_low l sl) (small_high h sh)))
tail_between once Fixed Var l h _ bad sl sh = no_var bad
tail_between once Param Var l h _ bad sl sh = no_var bad
tail_between once Var hb l h bad _ sl sh = no_var bad

-- ---- blocks

first_light : (u r : ℕ) → (u + r) ≤ 4100000 → u ≤ 4100000
first_light u r h = omega (arith, h)

rest_light : (u r : ℕ) → (u + r) ≤ 4100000 → r ≤ 4100000
rest_light u r h = omega (arith, h)

inner_light : (u f r : ℕ) → (u + (f + r)) ≤ 4100000 → ((u + f) + r) ≤ 4100000
inner_light u f r h = omega (arith, h)

pair_light : (u f r : ℕ) → (u + (f + r)) ≤ 4100000 → (u + f) ≤ 4100000
pair_light u f r h = omega (arith, h)

both_weights : (u f r : ℕ) → (u + f) + r ≤ u + (f + r)
both_weights u f r = omega arith

no_more : (u : ℕ) → u ≤ u + 0
no_more u = omega arith

module _ (way : Way) (what : Counted) (size : ℕ → ℕ) where
  mutual
    tail_stmt : (s : StmtTree) → is_fit_stmt s ≡ true → weight_of_stmt what size s ≤ 4100000 → Tail (weight_of_stmt what size s) (λ n. of_stmt way what size n (pos 0) s)
    tail_stmt (message label from to) h light = tail_flat (of_label what size label) (of_label what size label) (own_weight (of_label what size label))
    tail_stmt (foreach bounds mark items) h light =
        let lo = and_parts (is_bound bounds.low) (is_bound bounds.high && are_items items) h in
        let hi = and_parts (is_bound bounds.high) (are_items items) lo.1 in
        let l = and_parts (is_over_n bounds.low.base) (is_small bounds.low.off) lo.0 in
        let k = and_parts (is_over_n bounds.high.base) (is_small bounds.high.off) hi.0 in
        tail_as (weight_of what size items) (λ n. count_of ((value bounds.high n (pos 0) +ℤ pos 1) -ℤ value bounds.low n (pos 0)) * weight_of what size items) (λ n. of_stmt way what size n (pos 0) (foreach bounds mark items))
        (λ n far. same_sum (λ j. of_block way what size n j items) (weight_of what size items) (λ j. items_once way what size n j items hi.1) (count_of ((value bounds.high n (pos 0) +ℤ pos 1) -ℤ value bounds.low n (pos 0))) (value bounds.low n (pos 0)))
        (tail_between (weight_of what size items) bounds.low.base bounds.high.base bounds.low.off bounds.high.off l.0 k.0 l.1 k.1)
    tail_stmt (loop id mark body) h light = tail_block body h light
    tail_stmt (again id) h light = tail_flat 0 0 (own_weight 0)
    tail_stmt (choice kernel at branches) h light = tail_branches branches h light
    tail_stmt (run kernel at) h light = tail_flat 0 0 (own_weight 0)
    tail_stmt barrier h light = tail_flat 0 0 (own_weight 0)
    tail_stmt (broadcast label root) h light = tail_flat 0 0 (own_weight 0)
    tail_stmt (reduce label op root) h light = tail_flat 0 0 (own_weight 0)
    tail_stmt (allreduce label op) h light = tail_flat 0 0 (own_weight 0)

    pub tail_block : (b : BlockTree) → is_fit b ≡ true → weight_of what size b ≤ 4100000 → Tail (weight_of what size b) (λ n. of_block way what size n (pos 0) b)
    tail_block nothing h light = tail_flat 0 0 (own_weight 0)
    tail_block (more mark first rest) h light =
        let both = and_parts (is_fit_stmt first) (is_fit rest) h in
        tail_sum (weight_of_stmt what size first) (weight_of what size rest) (λ n. of_stmt way what size n (pos 0) first) (λ n. of_block way what size n (pos 0) rest)
        (tail_stmt first both.0 (first_light (weight_of_stmt what size first) (weight_of what size rest) light)) (tail_block rest both.1 (rest_light (weight_of_stmt what size first) (weight_of what size rest) light))

    tail_branches : (bs : BranchTrees) → are_fit bs ≡ true → weight_of_branches what size bs ≤ 4100000 → Tail (weight_of_branches what size bs) (λ n. of_branches way what size n (pos 0) bs)
    tail_branches no_branch h light = tail_flat 0 0 (own_weight 0)
    tail_branches (branch mark first rest) h light =
        let both = and_parts (is_fit first) (are_fit rest) h in
        tail_behind (weight_of what size first) (λ n. of_block way what size n (pos 0) first) (tail_block first both.0 (first_light (weight_of what size first) (weight_of_branches what size rest) light)) rest both.1 light

    tail_behind : (u : ℕ) (best : ℤ → ℕ) → Tail u best → (bs : BranchTrees) → are_fit bs ≡ true → (u + weight_of_branches what size bs) ≤ 4100000 → Tail (u + weight_of_branches what size bs) (λ n. behind way what size n (pos 0) (best n) bs)
    tail_behind u best t no_branch h light = tail_heavier u (u + 0) best (no_more u) t
    tail_behind u best t (branch mark first rest) h light =
        let both = and_parts (is_fit first) (are_fit rest) h in
        let one = tail_block first both.0 (first_light (weight_of what size first) (weight_of_branches what size rest) (rest_light u (weight_of what size first + weight_of_branches what size rest) light)) in
        tail_heavier ((u + weight_of what size first) + weight_of_branches what size rest) (u + (weight_of what size first + weight_of_branches what size rest)) (λ n. behind way what size n (pos 0) (picked way (best n) (of_block way what size n (pos 0) first)) rest) (both_weights u (weight_of what size first) (weight_of_branches what size rest))
        (tail_behind (u + weight_of what size first) (λ n. picked way (best n) (of_block way what size n (pos 0) first))
        (tail_picked way u (weight_of what size first) best (λ n. of_block way what size n (pos 0) first) t one (pair_light u (weight_of what size first) (weight_of_branches what size rest) light))
        rest both.1 (inner_light u (weight_of what size first) (weight_of_branches what size rest) light))

  pub straightens : (b : BlockTree) → is_fit b ≡ true → weight_of what size b ≤ 4100000 → Straightens (λ n. pos (of_block way what size n (pos 0) b))
  straightens b h light = let t = tail_block b h light in record { a = t.a; b = t.b; is = t.is }
