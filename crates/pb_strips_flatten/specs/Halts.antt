-- Which limits are passed where flattening stops.
use Rattle.std.specs.Prelude.{ℕ, ◌≡◌, ◌≤◌, Option, Some, None, List, [], ◌∷◌, slice_get}
use Rattle.pb_text.specs.declared.quantity.Quantity.TheVariants.{NameLength, Roles, Statements}
use Rattle.pb_strips_syntax.specs.declared.tree.StripRole.{StripRole}
use Rattle.pb_strips_syntax.specs.Strips.{Strips}
use Rattle.pb_strips_syntax.specs.Flattening.{flat_roles}
use Rattle.pb_strips_flatten.specs.declared.halt.Halt.{Halt}
use Rattle.pb_strips_flatten.specs.declared.halt.Halt.TheVariants.{TooMany, NoMemory}
use Rattle.pb_strips_flatten.specs.Excess.{Excess, first_of, passing, first_long, places_of, origins_in}

-- the statement too many comes from this place, or memory ran out
abbrev pub IsStatementExcess : Strips → Halt → Type 0
IsStatementExcess body (TooMany q p) = (q ≡ Statements) × (slice_get (origins_in body) 4000 ≡ Some p)
IsStatementExcess body NoMemory = Unit {0}

-- ---- roles

-- the last column of a strip is 63 or less
abbrev pub IsNarrow : Option (ℕ × ℕ) → Type 0
IsNarrow None = Unit {0}
IsNarrow (Some ends) = ends.1 ≤ 63

abbrev pub AreNarrow : List StripRole → Type 0
AreNarrow [] = Unit {0}
AreNarrow (r ∷ rs) = IsNarrow r.columns × AreNarrow rs

abbrev pub role_excess : List StripRole → Option Excess
role_excess roles = first_of (passing NameLength (first_long roles)) (passing Roles (slice_get (places_of (flat_roles roles)) 64))

abbrev pub IsRoleExcess : List StripRole → Halt → Type 0
IsRoleExcess roles (TooMany q p) = role_excess roles ≡ Some (record { limit = q; place = p })
IsRoleExcess roles NoMemory = Unit {0}
