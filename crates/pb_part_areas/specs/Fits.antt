-- Areas whose ends are cuts, for numbers N between breakpoints.
use Rattle.std.specs.Prelude.{◌≡◌, ◌≢◌, ℕ, ℤ, pos, negsuc, ◌<ℤ◌, ◌≤ℤ◌, ◌⊎◌, Option, Some, None, List, false}
use Rattle.std.specs.List.{Contains}
use Rattle.pb_text.specs.declared.limits.TheConstants.{MOST_OFFSET}
use Rattle.pb_affine.specs.declared.lin.Base.TheVariants.{Var}
use Rattle.pb_affine.specs.declared.lin.Lin.{Lin}
use Rattle.pb_affine.specs.declared.range.NRange.{NRange}
use Rattle.pb_affine.specs.Values.{is_up_to}
use Rattle.pb_cases.specs.Breakpoints.{IsBreakpoint}
use Rattle.pb_part_areas.specs.declared.area.Area.{Area}
use Rattle.pb_part_areas.specs.declared.cut.Two.{Two}

-- one of the cuts, no variable, and with a small offset, as the lin before it has
pub record IsCutOf (cuts : List Lin) (l : Lin) : Type 0 where
  pub there : Contains cuts l
  pub no_var : l.base ≢ Var
  pub least : negsuc 999998 ≤ℤ l.off
  pub most : l.off ≤ℤ MOST_OFFSET

-- a breakpoint, a number below the range, or one above it
pub record IsEdgeOf (range : NRange) (cuts : List Lin) (m : ℤ) : Type 0 where
  pub edge : IsBreakpoint range cuts m ⊎ ((m <ℤ pos range.low) ⊎ (is_up_to m range.high ≡ false))

abbrev pub IsEdgeOfIf : NRange → List Lin → Option ℕ → Type 0
IsEdgeOfIf range cuts None = Unit {0}
IsEdgeOfIf range cuts (Some m) = IsEdgeOf range cuts (pos m)

-- both ends are cuts, and the numbers N reach from one edge to another
pub record Fits (range : NRange) (cuts : List Lin) (a : Area) : Type 0 where
  pub low : IsCutOf cuts a.low
  pub end : IsCutOf cuts a.end
  pub from : IsEdgeOf range cuts (pos a.from)
  pub until : IsEdgeOfIf range cuts a.until

pub record FitTwo (range : NRange) (cuts : List Lin) (t : Two) : Type 0 where
  pub first : Fits range cuts t.first
  pub second : Fits range cuts t.second
