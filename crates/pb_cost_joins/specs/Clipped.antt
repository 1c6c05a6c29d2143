-- A line that is cut off at zero.
use Rattle.std.specs.Prelude.{◌≡◌, ℤ, pos, ◌+ℤ◌, ◌*ℤ◌, ◌≤ℤ◌, List}
use Rattle.std.specs.Int.{int_max}
use Rattle.pb_cost_pieces.specs.declared.stretch.Stretch.{Stretch}
use Rattle.pb_cost_pieces.specs.Joined.{ray_at}
use Rattle.pb_cost_pieces.specs.Lines.{value_at, AreSoFar}
use Rattle.pb_cost_joins.specs.declared.line.Line.{Line}
use Rattle.pb_cost_joins.specs.declared.span.Span.{Span}

-- the line that begins at the span's first number, with 0 where it is below 0
abbrev pub clipped : Span → Line → ℤ → ℤ
clipped span line n = int_max (pos 0) (ray_at line.ray span.from n)

-- the line changes by no more than the weight, and is within 900,000,200,001 times the weight
pub record IsMild (span : Span) (line : Line) : Type 0 where
  pub weight_low : pos 0 ≤ℤ line.weight
  pub weight_high : line.weight ≤ℤ pos 4100000
  pub slope_low : pos 0 ≤ℤ (line.ray.slope +ℤ line.weight)
  pub slope_high : line.ray.slope ≤ℤ line.weight
  pub low : (n : ℤ) → span.from ≤ℤ n → n ≤ℤ span.to → pos 0 ≤ℤ (ray_at line.ray span.from n +ℤ line.weight *ℤ pos 900000200001)
  pub high : (n : ℤ) → span.from ≤ℤ n → n ≤ℤ span.to → ray_at line.ray span.from n ≤ℤ (line.weight *ℤ pos 900000200001)

-- the first number is known
pub record IsBegun (span : Span) (line : Line) (done : List Stretch) (latest : Stretch) : Type 0 where
  pub to : latest.to ≡ span.from
  pub value : value_at latest latest.to ≡ clipped span line span.from
  pub so_far : AreSoFar (clipped span line) span.from done latest

-- and all of them are
pub record IsClipped (span : Span) (line : Line) (done : List Stretch) (latest : Stretch) : Type 0 where
  pub to : latest.to ≡ span.to
  pub so_far : AreSoFar (clipped span line) span.from done latest
