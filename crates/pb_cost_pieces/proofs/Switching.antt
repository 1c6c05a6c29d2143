-- Two lines joined, as one line and then the other.
use Rattle.std.proofs.Common.{◌≡◌, ℕ, ℤ, pos, ◌+ℤ◌, ◌≤ℤ◌, ◌<ℤ◌, Bool, true, false, if◌then◌else◌, Option, refl, sym, ◌∙◌, subst, arith}
use Rattle.std.specs.Int.{int_min, int_max}
use Rattle.std.proofs.lemmas.Int.{ints, clamps}
use Rattle.pb_cost_pieces.specs.declared.join.Join.TheVariants.{Sum, Least, Most}
use Rattle.pb_cost_pieces.specs.declared.ray.Ray.{Ray}
use Rattle.pb_cost_pieces.specs.Lines.{along, IsStep, IsTame}
use Rattle.pb_cost_pieces.specs.Joined.{ray_at, lasts_to, switched, both, StaysBelow}
use Rattle.pb_cost_pieces.specs.declared.switch.Switch.{Switch}
use Rattle.pb_cost_pieces.specs.Switches.{IsSwitch}
use Rattle.pb_cost_pieces.proofs.Lines.{along_sum}

-- ---- tame functions

-- a function that is the same on a part of the range
pub tame_part : (steep tall : ℤ) (f g : ℤ → ℤ) (low last from to : ℤ) → low ≤ℤ from → to ≤ℤ last → ((n : ℤ) → from ≤ℤ n → n ≤ℤ to → g n ≡ f n) → IsTame steep tall f low last → IsTame steep tall g from to
tame_part steep tall f g low last from to low_from to_last same tame = record {
  least = λ n h k. subst (λ x. pos 0 ≤ℤ x) (sym (same n h k)) (tame.least n (after n h) (before n k));
  most = λ n h k. subst (λ x. x ≤ℤ tall) (sym (same n h k)) (tame.most n (after n h) (before n k));
  steps = λ n h k.
      let here : g n ≡ f n = same n h (omega (arith, ints, k)) in
      let there : g (n +ℤ pos 1) ≡ f (n +ℤ pos 1) = same (n +ℤ pos 1) (omega (arith, ints, h)) (omega (arith, ints, k)) in
      subst (λ x. IsStep steep x (g (n +ℤ pos 1))) (sym here) (subst (λ x. IsStep steep (f n) x) (sym there) (tame.steps n (after n h) (omega (arith, ints, k, to_last))));
} where
  after : (n : ℤ) → from ≤ℤ n → low ≤ℤ n
  after n h = omega (arith, ints, h, low_from)

  before : (n : ℤ) → n ≤ℤ to → n ≤ℤ last
  before n k = omega (arith, ints, k, to_last)

-- ---- which of the two lines

min_first : (a b : ℤ) → a ≤ℤ b → int_min a b ≡ a
min_first a b h = omega (arith, ints, clamps, h)

min_second : (a b : ℤ) → b ≤ℤ a → int_min a b ≡ b
min_second a b h = omega (arith, ints, clamps, h)

max_first : (a b : ℤ) → b ≤ℤ a → int_max a b ≡ a
max_first a b h = omega (arith, ints, clamps, h)

max_second : (a b : ℤ) → a ≤ℤ b → int_max a b ≡ b
max_second a b h = omega (arith, ints, clamps, h)

weaker : (a b : ℤ) → a <ℤ b → a ≤ℤ b
weaker a b h = omega (arith, ints, h)

by_test : (c : Bool) (v a b : ℤ) → (c ≡ true → v ≡ a) → (c ≡ false → v ≡ b) → v ≡ (if c then a else b)
by_test true v a b if_so if_not = if_so refl
by_test false v a b if_so if_not = if_not refl

pub least_first : (steps : Option ℕ) (a b : Ray) (x n : ℤ) → StaysBelow steps a b → x ≤ℤ n → both Least x a b n ≡ switched steps x a b n
least_first steps a b x n stays le = by_test (lasts_to steps x n) (int_min (ray_at a x n) (ray_at b x n)) (ray_at a x n) (ray_at b x n)
    (λ h. min_first (ray_at a x n) (ray_at b x n) (stays.below x n le h))
    (λ h. min_second (ray_at a x n) (ray_at b x n) (weaker (ray_at b x n) (ray_at a x n) (stays.above x n le h)))

pub least_second : (steps : Option ℕ) (a b : Ray) (x n : ℤ) → StaysBelow steps b a → x ≤ℤ n → both Least x a b n ≡ switched steps x b a n
least_second steps a b x n stays le = by_test (lasts_to steps x n) (int_min (ray_at a x n) (ray_at b x n)) (ray_at b x n) (ray_at a x n)
    (λ h. min_second (ray_at a x n) (ray_at b x n) (stays.below x n le h))
    (λ h. min_first (ray_at a x n) (ray_at b x n) (weaker (ray_at a x n) (ray_at b x n) (stays.above x n le h)))

pub most_first : (steps : Option ℕ) (a b : Ray) (x n : ℤ) → StaysBelow steps b a → x ≤ℤ n → both Most x a b n ≡ switched steps x a b n
most_first steps a b x n stays le = by_test (lasts_to steps x n) (int_max (ray_at a x n) (ray_at b x n)) (ray_at a x n) (ray_at b x n)
    (λ h. max_first (ray_at a x n) (ray_at b x n) (stays.below x n le h))
    (λ h. max_second (ray_at a x n) (ray_at b x n) (weaker (ray_at a x n) (ray_at b x n) (stays.above x n le h)))

pub most_second : (steps : Option ℕ) (a b : Ray) (x n : ℤ) → StaysBelow steps a b → x ≤ℤ n → both Most x a b n ≡ switched steps x b a n
most_second steps a b x n stays le = by_test (lasts_to steps x n) (int_max (ray_at a x n) (ray_at b x n)) (ray_at b x n) (ray_at a x n)
    (λ h. max_second (ray_at a x n) (ray_at b x n) (stays.below x n le h))
    (λ h. max_first (ray_at a x n) (ray_at b x n) (weaker (ray_at b x n) (ray_at a x n) (stays.above x n le h)))

pub sum_is : (a b : Ray) (x n : ℤ) → both Sum x a b n ≡ along (a.start +ℤ b.start) (a.slope +ℤ b.slope) x n
sum_is a b x n = sym (along_sum a.start b.start a.slope b.slope x n)

-- ---- the switch of the least, and of the most

min_same : (a b : ℤ) → int_min a b ≡ int_min b a
min_same a b = omega (arith, ints, clamps)

max_same : (a b : ℤ) → int_max a b ≡ int_max b a
max_same a b = omega (arith, ints, clamps)

pub least_turned : (a b : Ray) (s : Switch) → IsSwitch Least b a s → IsSwitch Least a b s
least_turned a b s is = record {
  start = is.start ∙ min_same b.start a.start;
  is = λ x n le. min_same (ray_at a x n) (ray_at b x n) ∙ is.is x n le;
}

pub most_turned : (a b : Ray) (s : Switch) → IsSwitch Most b a s → IsSwitch Most a b s
most_turned a b s is = record {
  start = is.start ∙ max_same b.start a.start;
  is = λ x n le. max_same (ray_at a x n) (ray_at b x n) ∙ is.is x n le;
}

pub below_is : (a b : Ray) (steps : Option ℕ) → a.start ≤ℤ b.start → StaysBelow steps a b → IsSwitch Least a b (record { kept = a; other = b; steps = steps })
below_is a b steps h stays = record { start = sym (min_first a.start b.start h); is = λ x n le. least_first steps a b x n stays le }

pub above_is : (a b : Ray) (steps : Option ℕ) → b.start ≤ℤ a.start → StaysBelow steps b a → IsSwitch Most a b (record { kept = a; other = b; steps = steps })
above_is a b steps h stays = record { start = sym (max_first a.start b.start h); is = λ x n le. most_first steps a b x n stays le }
