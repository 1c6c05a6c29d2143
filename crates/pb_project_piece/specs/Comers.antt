-- Those who come to an end, in no foreach or in one.
use Rattle.std.specs.Prelude.{◌≡◌, ℕ, ℤ, pos, ◌≤ℤ◌, Bool, true, ◌&&◌, Option, Some, None, List}
use Rattle.pb_affine.specs.declared.range.NRange.{NRange}
use Rattle.pb_affine.specs.Values.{value}
use Rattle.pb_part_areas.specs.declared.area.Area.{Area}
use Rattle.pb_part_areas.specs.Areas.{have}
use Rattle.pb_core_language.specs.declared.tree.CoreEnd.{CoreEnd}
use Rattle.pb_core_language.specs.Sound.{is_bound, is_small}
use Rattle.pb_core_flat.specs.Seated.{is_at}
use Rattle.pb_core_flat.specs.Meets.{is_met}
use Rattle.pb_core_language.specs.declared.tree.Bounds.{Bounds}
use Rattle.pb_project_piece.specs.Seen.{IsAmong, IsFound}

abbrev pub AreBounds : Bounds → Type 0
AreBounds over = (is_bound over.low ≡ true) × (is_bound over.high ≡ true)

-- the rank at the end; in a foreach, those at the end for some value of its variable who are at an end without it
abbrev pub comes_to : Option Bounds → List Area → CoreEnd → ℤ → ℕ → ℤ → Bool
comes_to None fixed e n role x = is_at e n (pos 0) role x
comes_to (Some over) fixed e n role x = have fixed n role x && is_met e (value over.low n (pos 0)) (value over.high n (pos 0)) n role x

abbrev pub AreBoundsIf : Option Bounds → Type 0
AreBoundsIf None = Unit {0}
AreBoundsIf (Some over) = AreBounds over

pub record AreComers (over : Option Bounds) (fixed : List Area) (e : CoreEnd) (areas : List Area) : Type 0 where
  pub is : (n : ℤ) (role : ℕ) (x : ℤ) → pos 0 ≤ℤ n → is_small e.at.off ≡ true → AreBoundsIf over → have areas n role x ≡ comes_to over fixed e n role x

-- what the area holds of comes to the end, where there is one
pub record IsSomeComer (whole : List Area) (over : Option Bounds) (fixed : List Area) (e : CoreEnd) (part : Option Area) : Type 0 where
  pub is : is_small e.at.off ≡ true → AreBoundsIf over → IsAmong whole part (λ n role x. comes_to over fixed e n role x)

-- whether some rank comes to the end
pub record IsComing (range : NRange) (whole : List Area) (over : Option Bounds) (fixed : List Area) (e : CoreEnd) (t : Bool) : Type 0 where
  pub is : is_small e.at.off ≡ true → AreBoundsIf over → IsFound range whole (λ n role x. comes_to over fixed e n role x) t
