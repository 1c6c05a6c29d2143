-- The numbers of a range that are looked at: all of them, or those up to 900,000,000,000.
use Rattle.std.specs.Prelude.{◌≡◌, ℕ, ℤ, pos, Option, Some, None}
use Rattle.pb_affine.specs.declared.range.NRange.{NRange}
use Rattle.pb_cost_joins.specs.declared.span.Span.{Span}

abbrev pub horizon : Option ℕ → ℤ
horizon None = pos 900000000000
horizon (Some high) = pos high

pub record IsSpanOf (range : NRange) (span : Span) : Type 0 where
  pub from : span.from ≡ pos range.low
  pub to : span.to ≡ horizon range.high
