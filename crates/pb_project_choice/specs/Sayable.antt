-- Areas that guards can say.
use Rattle.std.specs.Prelude.{◌≡◌, ◌≢◌, ◌<◌, ◌≤ℤ◌, ℕ, ℤ, pos, negsuc, ◌∷◌, Option, Some, None, [], List}
use Rattle.std.specs.List.{All}
use Rattle.pb_text.specs.declared.limits.TheConstants.{MOST_NUMBER, MOST_OFFSET}
use Rattle.pb_affine.specs.declared.guard.Guard.{Guard}
use Rattle.pb_affine.specs.declared.lin.Base.TheVariants.{Var}
use Rattle.pb_affine.specs.declared.lin.Lin.{Lin}
use Rattle.pb_affine.specs.declared.range.NRange.{NRange}
use Rattle.pb_affine.specs.Values.{holds, IsSmallGuard}
use Rattle.pb_part_areas.specs.declared.area.Area.{Area}
use Rattle.pb_part_areas.specs.Areas.{has}
use Rattle.pb_part_areas.specs.Fits.{Fits}
use Rattle.pb_cases.specs.Bounds.{IsEdgeIf}
use Rattle.pb_cases.specs.Breakpoints.{IsCut, Division}
use Rattle.pb_core_language.specs.Verdict.{IsIn}
use Rattle.pb_local.specs.WellMade.{IsRange, IsBoundIf}

-- they fit some small cuts
pub record AreSayable (range : NRange) (list : List Area) : Type 0 where
  pub cuts : List Lin
  pub are_cuts : All IsCut cuts
  pub fit : All (Fits range cuts) list

-- a number that no guard may name
abbrev pub IsBeyond : Option ℕ → Type 0
IsBeyond None = ⊥
IsBeyond (Some n) = MOST_NUMBER < n

abbrev pub division : NRange → List Lin → Division
division range cuts = record { range = range; cuts = cuts; breakpoints = [] }

-- the guard holds of the ranks in the area, be the variable what it may
pub record IsGuardOf (range : NRange) (a : Area) (g : Guard) : Type 0 where
  pub is : (cuts : List Lin) (n i : ℤ) (role : ℕ) (x : ℤ) → IsRange range → All IsCut cuts → Fits range cuts a → IsIn range n → holds g n i role x ≡ has a n role x
  pub from_edge : (cuts : List Lin) → Fits range cuts a → IsEdgeIf (division range cuts) (pos 0) g.from
  pub small : IsSmallGuard g
  pub to : IsBoundIf g.to

-- an end of an area that any guard can say
pub record IsPlainLin (l : Lin) : Type 0 where
  pub no_var : l.base ≢ Var
  pub least : negsuc 999998 ≤ℤ l.off
  pub most : l.off ≤ℤ MOST_OFFSET

-- guards can say the area
pub record IsSayable (a : Area) : Type 0 where
  pub is : (range : NRange) → AreSayable range (a ∷ [])
