-- What is true of the numbers of a tame line.
use Rattle.std.proofs.Common.{◌≡◌, ℤ, pos, negsuc, ◌+ℤ◌, ◌≤ℤ◌, ◌<ℤ◌, ap, ◌∙◌, subst, arith}
use Rattle.std.proofs.lemmas.Int.{ints}
use Rattle.pb_cost_pieces.specs.Lines.{along, IsStep, IsTame}
use Rattle.pb_cost_pieces.proofs.Lines.{along_here, along_next}

le_same : (x : ℤ) → x ≤ℤ x
le_same x = omega (arith, ints)

le_next : (x : ℤ) → x ≤ℤ (x +ℤ pos 1)
le_next x = omega (arith, ints)

next_le : (x to : ℤ) → x <ℤ to → (x +ℤ pos 1) ≤ℤ to
next_le x to h = omega (arith, ints, h)

pub second_value : (start slope x : ℤ) → along start slope x (x +ℤ pos 1) ≡ start +ℤ slope
second_value start slope x = along_next start slope x x ∙ ap (λ v. v +ℤ slope) (along_here start slope x)

module _ (start slope x to : ℤ) (tame : IsTame (pos 4100000) (pos 4000000000000000000) (along start slope x) x to) where
  pub start_low : x ≤ℤ to → pos 0 ≤ℤ start
  start_low h = subst (λ v. pos 0 ≤ℤ v) (along_here start slope x) (tame.least x (le_same x) h)

  pub start_high : x ≤ℤ to → start ≤ℤ pos 4000000000000000000
  start_high h = subst (λ v. v ≤ℤ pos 4000000000000000000) (along_here start slope x) (tame.most x (le_same x) h)

  pub next_low : x <ℤ to → pos 0 ≤ℤ (start +ℤ slope)
  next_low h = subst (λ v. pos 0 ≤ℤ v) (second_value start slope x) (tame.least (x +ℤ pos 1) (le_next x) (next_le x to h))

  pub next_high : x <ℤ to → (start +ℤ slope) ≤ℤ pos 4000000000000000000
  next_high h = subst (λ v. v ≤ℤ pos 4000000000000000000) (second_value start slope x) (tame.most (x +ℤ pos 1) (le_next x) (next_le x to h))

  step : x <ℤ to → IsStep (pos 4100000) start (start +ℤ slope)
  step h = subst (λ v. IsStep (pos 4100000) v (start +ℤ slope)) (along_here start slope x) (subst (λ v. IsStep (pos 4100000) (along start slope x x) v) (second_value start slope x) (tame.steps x (le_same x) h))

  pub slope_low : x <ℤ to → negsuc 4099999 ≤ℤ slope
  slope_low h = let s = step h in let down = s.down in omega (arith, ints, down)

  pub slope_high : x <ℤ to → slope ≤ℤ pos 4100000
  slope_high h = let s = step h in let up = s.up in omega (arith, ints, up)
