-- Tame functions: wider bounds, and two of them joined.
use Rattle.std.proofs.Common.{◌≡◌, ℤ, pos, ◌+ℤ◌, ◌*ℤ◌, ◌≤ℤ◌, subst, arith}
use Rattle.std.specs.Int.{int_min, int_max}
use Rattle.std.proofs.lemmas.Int.{ints, clamps}
use Rattle.pb_cost_pieces.specs.declared.join.Join.{Join}
use Rattle.pb_cost_pieces.specs.declared.join.Join.TheVariants.{Sum, Least, Most}
use Rattle.pb_cost_pieces.specs.Lines.{joined, IsTame}

le_through : (x t v : ℤ) → x ≤ℤ t → t ≤ℤ v → x ≤ℤ v
le_through x t v h k = omega (arith, ints, h, k)

wider_step : (s u x y : ℤ) → s ≤ℤ u → y ≤ℤ (x +ℤ s) → y ≤ℤ (x +ℤ u)
wider_step s u x y h k = omega (arith, ints, h, k)

pub tame_wider : (s t u v : ℤ) (f : ℤ → ℤ) (low last : ℤ) → s ≤ℤ u → t ≤ℤ v → IsTame s t f low last → IsTame u v f low last
tame_wider s t u v f low last h k tame = record {
  least = tame.least;
  most = λ n a b. le_through (f n) t v (tame.most n a b) k;
  steps = λ n a b. record {
    up = wider_step s u (f n) (f (n +ℤ pos 1)) h (tame.steps n a b).up;
    down = wider_step s u (f (n +ℤ pos 1)) (f n) h (tame.steps n a b).down;
  };
}

-- ---- two numbers joined

sum_least : (x y : ℤ) → pos 0 ≤ℤ x → pos 0 ≤ℤ y → pos 0 ≤ℤ (x +ℤ y)
sum_least x y h k = omega (arith, ints, h, k)

sum_most : (x y t v : ℤ) → x ≤ℤ t → y ≤ℤ v → (x +ℤ y) ≤ℤ (t +ℤ v)
sum_most x y t v h k = omega (arith, ints, h, k)

sum_step : (x y z w s u : ℤ) → z ≤ℤ (x +ℤ s) → w ≤ℤ (y +ℤ u) → (z +ℤ w) ≤ℤ ((x +ℤ y) +ℤ (s +ℤ u))
sum_step x y z w s u h k = omega (arith, ints, h, k)

min_least : (x y : ℤ) → pos 0 ≤ℤ x → pos 0 ≤ℤ y → pos 0 ≤ℤ int_min x y
min_least x y h k = omega (arith, ints, clamps, h, k)

min_most : (x y t v : ℤ) → pos 0 ≤ℤ x → pos 0 ≤ℤ y → x ≤ℤ t → y ≤ℤ v → int_min x y ≤ℤ (t +ℤ v)
min_most x y t v a b h k = omega (arith, ints, clamps, a, b, h, k)

min_step : (x y z w s u : ℤ) → pos 0 ≤ℤ s → pos 0 ≤ℤ u → z ≤ℤ (x +ℤ s) → w ≤ℤ (y +ℤ u) → int_min z w ≤ℤ (int_min x y +ℤ (s +ℤ u))
min_step x y z w s u a b h k = omega (arith, ints, clamps, a, b, h, k)

max_least : (x y : ℤ) → pos 0 ≤ℤ x → pos 0 ≤ℤ y → pos 0 ≤ℤ int_max x y
max_least x y h k = omega (arith, ints, clamps, h, k)

max_most : (x y t v : ℤ) → pos 0 ≤ℤ x → pos 0 ≤ℤ y → x ≤ℤ t → y ≤ℤ v → int_max x y ≤ℤ (t +ℤ v)
max_most x y t v a b h k = omega (arith, ints, clamps, a, b, h, k)

max_step : (x y z w s u : ℤ) → pos 0 ≤ℤ s → pos 0 ≤ℤ u → z ≤ℤ (x +ℤ s) → w ≤ℤ (y +ℤ u) → int_max z w ≤ℤ (int_max x y +ℤ (s +ℤ u))
max_step x y z w s u a b h k = omega (arith, ints, clamps, a, b, h, k)

pub joined_least : (join : Join) (x y : ℤ) → pos 0 ≤ℤ x → pos 0 ≤ℤ y → pos 0 ≤ℤ joined join x y
joined_least Sum x y h k = sum_least x y h k
joined_least Least x y h k = min_least x y h k
joined_least Most x y h k = max_least x y h k

joined_most : (join : Join) (x y t v : ℤ) → pos 0 ≤ℤ x → pos 0 ≤ℤ y → x ≤ℤ t → y ≤ℤ v → joined join x y ≤ℤ (t +ℤ v)
joined_most Sum x y t v a b h k = sum_most x y t v h k
joined_most Least x y t v a b h k = min_most x y t v a b h k
joined_most Most x y t v a b h k = max_most x y t v a b h k

joined_step : (join : Join) (x y z w s u : ℤ) → pos 0 ≤ℤ s → pos 0 ≤ℤ u → z ≤ℤ (x +ℤ s) → w ≤ℤ (y +ℤ u) → joined join z w ≤ℤ (joined join x y +ℤ (s +ℤ u))
joined_step Sum x y z w s u a b h k = sum_step x y z w s u h k
joined_step Least x y z w s u a b h k = min_step x y z w s u a b h k
joined_step Most x y z w s u a b h k = max_step x y z w s u a b h k

pub joined_tame : (join : Join) (s t u v : ℤ) (f g : ℤ → ℤ) (low last : ℤ) → pos 0 ≤ℤ s → pos 0 ≤ℤ u → IsTame s t f low last → IsTame u v g low last → IsTame (s +ℤ u) (t +ℤ v) (λ n. joined join (f n) (g n)) low last
joined_tame join s t u v f g low last h k one two = record {
  least = λ n a b. joined_least join (f n) (g n) (one.least n a b) (two.least n a b);
  most = λ n a b. joined_most join (f n) (g n) t v (one.least n a b) (two.least n a b) (one.most n a b) (two.most n a b);
  steps = λ n a b. record {
    up = joined_step join (f n) (g n) (f (n +ℤ pos 1)) (g (n +ℤ pos 1)) s u h k (one.steps n a b).up (two.steps n a b).up;
    down = joined_step join (f (n +ℤ pos 1)) (g (n +ℤ pos 1)) (f n) (g n) s u h k (one.steps n a b).down (two.steps n a b).down;
  };
}

-- ---- weights

pub tall_of : (w v : ℤ) → (w +ℤ v) ≤ℤ pos 4100000 → (w *ℤ pos 900000200001 +ℤ v *ℤ pos 900000200001) ≤ℤ pos 4000000000000000000
tall_of w v h = omega (arith, ints, h)

pub tall_one : (w : ℤ) → w ≤ℤ pos 4100000 → (w *ℤ pos 900000200001) ≤ℤ pos 4000000000000000000
tall_one w h = omega (arith, ints, h)

pub tall_sum : (w v : ℤ) → w *ℤ pos 900000200001 +ℤ v *ℤ pos 900000200001 ≡ (w +ℤ v) *ℤ pos 900000200001
tall_sum w v = omega (arith, ints)

light_left : (w v : ℤ) → pos 0 ≤ℤ v → (w +ℤ v) ≤ℤ pos 4100000 → w ≤ℤ pos 4100000
light_left w v h k = omega (arith, ints, h, k)

light_right : (w v : ℤ) → pos 0 ≤ℤ w → (w +ℤ v) ≤ℤ pos 4100000 → v ≤ℤ pos 4100000
light_right w v h k = omega (arith, ints, h, k)

pub tame_left : (w v : ℤ) (f : ℤ → ℤ) (low last : ℤ) → pos 0 ≤ℤ v → (w +ℤ v) ≤ℤ pos 4100000 → IsTame w (w *ℤ pos 900000200001) f low last → IsTame (pos 4100000) (pos 4000000000000000000) f low last
tame_left w v f low last h k tame = tame_wider w (w *ℤ pos 900000200001) (pos 4100000) (pos 4000000000000000000) f low last (light_left w v h k) (tall_one w (light_left w v h k)) tame

pub tame_right : (w v : ℤ) (f : ℤ → ℤ) (low last : ℤ) → pos 0 ≤ℤ w → (w +ℤ v) ≤ℤ pos 4100000 → IsTame v (v *ℤ pos 900000200001) f low last → IsTame (pos 4100000) (pos 4000000000000000000) f low last
tame_right w v f low last h k tame = tame_wider v (v *ℤ pos 900000200001) (pos 4100000) (pos 4000000000000000000) f low last (light_right w v h k) (tall_one v (light_right w v h k)) tame

pub tame_both : (join : Join) (w v : ℤ) (f g : ℤ → ℤ) (low last : ℤ) → pos 0 ≤ℤ w → pos 0 ≤ℤ v → IsTame w (w *ℤ pos 900000200001) f low last → IsTame v (v *ℤ pos 900000200001) g low last → IsTame (w +ℤ v) ((w +ℤ v) *ℤ pos 900000200001) (λ n. joined join (f n) (g n)) low last
tame_both join w v f g low last h k one two = subst (λ t. IsTame (w +ℤ v) t (λ n. joined join (f n) (g n)) low last) (tall_sum w v) (joined_tame join w (w *ℤ pos 900000200001) v (v *ℤ pos 900000200001) f g low last h k one two)

pub tame_light : (w : ℤ) (f : ℤ → ℤ) (low last : ℤ) → w ≤ℤ pos 4100000 → IsTame w (w *ℤ pos 900000200001) f low last → IsTame (pos 4100000) (pos 4000000000000000000) f low last
tame_light w f low last h tame = tame_wider w (w *ℤ pos 900000200001) (pos 4100000) (pos 4000000000000000000) f low last h (tall_one w h) tame
