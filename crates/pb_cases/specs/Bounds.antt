-- The ends of guards, and guards whose ends are cuts.
use Rattle.std.specs.Prelude.{◌≡◌, ℕ, ℤ, pos, ◌+ℤ◌, ◌<ℤ◌, ◌⊎◌, Option, Some, None, false}
use Rattle.std.specs.List.{Contains}
use Rattle.pb_affine.specs.declared.lin.Base.TheVariants.{Fixed}
use Rattle.pb_affine.specs.declared.lin.Lin.{Lin}
use Rattle.pb_affine.specs.declared.guard.Guard.{Guard}
use Rattle.pb_affine.specs.Values.{is_up_to}
use Rattle.pb_cases.specs.Breakpoints.{Division, IsBreakpoint}

abbrev pub or_zero : Option Lin → Lin
or_zero None = record { base = Fixed; off = pos 0 }
or_zero (Some l) = l

abbrev pub after : Lin → Lin
after l = record { base = l.base; off = l.off +ℤ pos 1 }

-- the two ends of a guard: it holds from the first up to below the second, which is `high` plus 1
abbrev pub low_end : Guard → Lin
low_end g = or_zero g.low

abbrev pub high_end : Guard → Lin
high_end g = after (or_zero g.high)

-- both index bounds are there
pub record IsBounded (g : Guard) : Type 0 where
  pub low_is : g.low ≡ Some (or_zero g.low)
  pub high_is : g.high ≡ Some (or_zero g.high)

-- a breakpoint, a number below the range, or one above it
abbrev pub IsEdge : Division → ℤ → Type 0
IsEdge d m = IsBreakpoint d.range d.cuts m ⊎ ((m <ℤ pos d.range.low) ⊎ (is_up_to m d.range.high ≡ false))

-- the number plus `more`, where there is one, is an edge
abbrev pub IsEdgeIf : Division → ℤ → Option ℕ → Type 0
IsEdgeIf d more None = Unit {0}
IsEdgeIf d more (Some m) = IsEdge d (pos m +ℤ more)

-- both index bounds are there, `low` and `high` plus 1 are cuts, and `from`, and `to` plus 1, are edges
pub record IsAligned (d : Division) (g : Guard) : Type 0 where
  pub bounded : IsBounded g
  pub low_in : Contains d.cuts (low_end g)
  pub high_in : Contains d.cuts (high_end g)
  pub from_edge : IsEdgeIf d (pos 0) g.from
  pub to_edge : IsEdgeIf d (pos 1) g.to
