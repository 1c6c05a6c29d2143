-- The least and the most of two lines: one of them up to where they cross, and then the other.
use Rattle.std.specs.Prelude.{◌≡◌, ℕ, ◌<◌, ◌≤◌, ℤ, pos, ◌+ℤ◌, ◌*ℤ◌, ◌≤ℤ◌, ◌<ℤ◌, Bool, true, false, int_le, if◌then◌else◌, Option, Some, None}
use Rattle.pb_cost_pieces.specs.declared.join.Join.{Join}
use Rattle.pb_cost_pieces.specs.declared.ray.Ray.{Ray}
use Rattle.pb_cost_pieces.specs.Lines.{along, joined}

-- the ray's line, where it begins at x
abbrev pub ray_at : Ray → ℤ → ℤ → ℤ
ray_at ray x n = along ray.start ray.slope x n

-- n is at most so many numbers behind x
abbrev pub lasts_to : Option ℕ → ℤ → ℤ → Bool
lasts_to None x n = true
lasts_to (Some steps) x n = int_le n (x +ℤ pos steps)

-- one line for so many numbers, and then the other
abbrev pub switched : Option ℕ → ℤ → Ray → Ray → ℤ → ℤ
switched steps x kept other n = if lasts_to steps x n then ray_at kept x n else ray_at other x n

-- two lines joined
abbrev pub both : Join → ℤ → Ray → Ray → ℤ → ℤ
both join x a b n = joined join (ray_at a x n) (ray_at b x n)

-- for so many numbers the one line isn't above the other, and then it is
pub record StaysBelow (steps : Option ℕ) (lower upper : Ray) : Type 0 where
  pub below : (x n : ℤ) → x ≤ℤ n → lasts_to steps x n ≡ true → ray_at lower x n ≤ℤ ray_at upper x n
  pub above : (x n : ℤ) → x ≤ℤ n → lasts_to steps x n ≡ false → ray_at upper x n <ℤ ray_at lower x n

-- for so many steps a gap that changes by `slope` with each isn't below 0, and then it is
pub data Lasts : Option ℕ → ℤ → ℤ → Type 0 where
  endless : (gap slope : ℤ) → ((j : ℕ) → pos 0 ≤ℤ (gap +ℤ slope *ℤ pos j)) → Lasts None gap slope
  ended : (steps : ℕ) (gap slope : ℤ) → ((j : ℕ) → j ≤ steps → pos 0 ≤ℤ (gap +ℤ slope *ℤ pos j)) → ((j : ℕ) → steps < j → (gap +ℤ slope *ℤ pos j) <ℤ pos 0) → Lasts (Some steps) gap slope
