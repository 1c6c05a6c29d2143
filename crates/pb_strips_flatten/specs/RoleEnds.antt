-- What a step of a walk over roles returned, and which roles are written then.
use Rattle.std.specs.Prelude.{◌≡◌, ℕ, ◌≤◌, Option, Some, None, List, [], ◌∷◌, ◌++◌, length, slice_get, Result, Ok, Err}
use Rattle.pb_text.specs.declared.place.Spot.{Spot}
use Rattle.pb_syntax.specs.declared.tree.RoleText.{RoleText}
use Rattle.pb_strips_syntax.specs.declared.tree.StripRole.{StripRole}
use Rattle.pb_strips_flatten.specs.declared.stop.Stop.{Stop}
use Rattle.pb_strips_flatten.specs.declared.stop.Stop.TheVariants.{TooMany, Unnamed, NoMemory}
use Rattle.pb_strips_flatten.specs.declared.role_list.RoleList.{RoleList}
use Rattle.pb_strips_flatten.specs.Excess.{places_of}

-- the names of a strip's columns are names
pub record Fit (strip : Spot) (high : ℕ) : Type 0 where
  pub short : length strip.name ≤ 60
  pub narrow : high ≤ 63

abbrev pub ColumnsFit : Spot → Option (ℕ × ℕ) → Type 0
ColumnsFit role None = Unit {0}
ColumnsFit role (Some ends) = Fit role ends.1

abbrev pub RoleFits : StripRole → Type 0
RoleFits r = ColumnsFit r.role r.columns

abbrev pub RolesFit : List StripRole → Type 0
RolesFit [] = Unit {0}
RolesFit (r ∷ rs) = RoleFits r × RolesFit rs

abbrev pub RolesStop : Stop → List RoleText → Type 0 → List RoleText → Type 0
RolesStop (TooMany p) part Fits before = slice_get (places_of (before ++ part)) 64 ≡ Some p
RolesStop Unnamed part Fits before = Fits → ⊥
RolesStop NoMemory part Fits before = Unit {0}

abbrev pub RolesEnd : Result (Unit {0}) Stop → List RoleText → Type 0 → List RoleText → List RoleText → Type 0
RolesEnd (Ok u) part Fits before after = after ≡ before ++ part
RolesEnd (Err s) part Fits before after = RolesStop s part Fits before

abbrev pub IsMade : Result RoleList Stop → List RoleText → Type 0 → Type 0
IsMade (Ok out) roles Fits = out.list.items ≡ roles
IsMade (Err s) roles Fits = RolesStop s roles Fits []
