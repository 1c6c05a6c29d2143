-- The limits on the file that a file with strips stands for, and what passes them first.
use Rattle.std.specs.Prelude.{ℕ, Bool, ◌&&◌, is_some, nat_lt, if◌then◌else◌, Option, Some, None, List, [], ◌∷◌, ◌++◌, length, slice_get}
use Rattle.pb_text.specs.declared.place.Place.{Place}
use Rattle.pb_text.specs.declared.quantity.Quantity.{Quantity}
use Rattle.pb_text.specs.declared.quantity.Quantity.TheVariants.{NameLength, Roles, Statements}
use Rattle.pb_syntax.specs.declared.tree.RoleText.{RoleText}
use Rattle.pb_strips_syntax.specs.declared.tree.StripRole.{StripRole}
use Rattle.pb_strips_syntax.specs.Columns.{numbers}
use Rattle.pb_strips_syntax.specs.Flattening.{flat_roles}
use Rattle.pb_strips_syntax.specs.Strips.{Strip, message, foreach, loop, again, choice, compute, barrier, broadcast, reduce, allreduce, columns, Strips, nothing, more, StripBranches, no_branch, branch, PlainStripFile}

-- a limit that is passed, and the place of what passes it
pub record Excess : Type 0 where
  pub limit : Quantity
  pub place : Place

abbrev pub first_of : Option Excess → Option Excess → Option Excess
first_of (Some e) other = Some e
first_of None other = other

abbrev pub passing : Quantity → Option Place → Option Excess
passing limit None = None
passing limit (Some place) = Some (record { limit = limit; place = place })

-- ---- the name of a strip has 60 bytes at most, so that those of its columns have 64 at most

abbrev pub is_long : StripRole → Bool
is_long r = is_some r.columns && nat_lt 60 (length r.role.name)

abbrev pub first_long : List StripRole → Option Place
first_long [] = None
first_long (r ∷ rs) = if is_long r then Some r.role.place else first_long rs

-- ---- 64 roles at most

abbrev pub places_of : List RoleText → List Place
places_of [] = []
places_of (r ∷ rs) = r.role.place ∷ places_of rs

-- ---- 4,000 statements at most

-- the same, so many times
abbrev pub for_each : List ℕ → List Place → List Place
for_each [] body = []
for_each (c ∷ cs) body = body ++ for_each cs body

-- where each statement of the flat file comes from, in its order, a statement before what stands in it
abbrev mutual
  pub origins_at : Strip → List Place
  origins_at (message label carries from to) = label.place ∷ []
  origins_at (foreach place var over at items) = place ∷ origins_in items
  origins_at (loop place name at body) = place ∷ origins_in body
  origins_at (again place name) = place ∷ []
  origins_at (choice place kernel who branches) = place ∷ origins_among branches
  origins_at (compute place kernel who) = place ∷ []
  origins_at (barrier place) = place ∷ []
  origins_at (broadcast place label carries from) = place ∷ []
  origins_at (reduce place label carries by to) = place ∷ []
  origins_at (allreduce place label carries by) = place ∷ []
  origins_at (columns place var low high at body) = for_each (numbers low high) (origins_in body)

  pub origins_in : Strips → List Place
  origins_in nothing = []
  origins_in (more s rest) = origins_at s ++ origins_in rest

  pub origins_among : StripBranches → List Place
  origins_among no_branch = []
  origins_among (branch at first rest) = origins_in first ++ origins_among rest

-- ---- a file

abbrev pub roles_excess : PlainStripFile → Option Excess
roles_excess f = first_of (passing NameLength (first_long f.roles)) (passing Roles (slice_get (places_of (flat_roles f.roles)) 64))

abbrev pub excess_of : PlainStripFile → Option Excess
excess_of f = first_of (roles_excess f) (passing Statements (slice_get (origins_in f.body.list) 4000))
