-- How many values the variable of a foreach has, as a line.
--
-- n is N.
use Rattle.std.specs.Prelude.{◌≡◌, ℤ, pos, negsuc, ◌+ℤ◌, ◌-ℤ◌, ◌≤ℤ◌}
use Rattle.pb_affine.specs.declared.lin.Lin.{Lin}
use Rattle.pb_affine.specs.Values.{value}
use Rattle.pb_cost_joins.specs.declared.span.Span.{Span}
use Rattle.pb_cost_pieces.specs.declared.ray.Ray.{Ray}
use Rattle.pb_cost_pieces.specs.Joined.{ray_at}
use Rattle.pb_cost_pieces.specs.Lines.{along}
use Rattle.pb_cost_blocks.specs.declared.end.End.{End}

-- the line of an end of a foreach, from the span's first number on
pub record IsEndOf (span : Span) (lin : Lin) (e : End) : Type 0 where
  pub is : (n : ℤ) → along e.start e.slope span.from n ≡ value lin n (pos 0)
  pub low : (n : ℤ) → span.from ≤ℤ n → negsuc 99999 ≤ℤ value lin n (pos 0)
  pub high : (n : ℤ) → n ≤ℤ span.to → span.from ≤ℤ n → value lin n (pos 0) ≤ℤ pos 900000100000

-- the line of `high - low + 1`
pub record IsValuesOf (span : Span) (low high : Lin) (ray : Ray) : Type 0 where
  pub is : (n : ℤ) → ray_at ray span.from n ≡ (value high n (pos 0) +ℤ pos 1) -ℤ value low n (pos 0)
  pub least : (n : ℤ) → span.from ≤ℤ n → n ≤ℤ span.to → negsuc 900000200000 ≤ℤ ray_at ray span.from n
  pub most : (n : ℤ) → span.from ≤ℤ n → n ≤ℤ span.to → ray_at ray span.from n ≤ℤ pos 900000200001
  pub start_low : negsuc 900000200000 ≤ℤ ray.start
  pub start_high : ray.start ≤ℤ pos 900000200001
  pub slope_low : negsuc 0 ≤ℤ ray.slope
  pub slope_high : ray.slope ≤ℤ pos 1
