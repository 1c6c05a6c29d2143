-- Which ranks come to a place in the text, and what the variable may be there.
use Rattle.std.specs.Prelude.{ℕ, ℤ, Bool, true, ◌&&◌, List}
use Rattle.pb_affine.specs.declared.range.NRange.{NRange}
use Rattle.pb_core_language.specs.declared.protocol.CoreRole.{CoreRole}
use Rattle.pb_core_language.specs.declared.tree.CoreEnd.{CoreEnd}
use Rattle.pb_core_language.specs.Plain.{Protocol}
use Rattle.pb_core_flat.specs.Seated.{is_at}
use Rattle.pb_local.specs.declared.stmt.Peer.{Peer}
use Rattle.pb_local.specs.declared.tables.Role.{Role}

-- the roles, and the range of N
pub record Scope : Type 0 where
  pub roles : List CoreRole
  pub range : NRange

abbrev pub scope_of : Protocol → Scope
scope_of p = record { roles = p.roles; range = p.range }

-- a role as the program has it
abbrev pub role_of : CoreRole → Role
role_of r = record { name = r.name; low = r.low; high = r.high }

-- ranks, by N, the variable of the text, their role and their index
abbrev pub Who : Type 0
Who = ℤ → ℤ → ℕ → ℤ → Bool

abbrev pub everyone : Who
everyone n i role x = true

-- a place in the text: the values that the variable may have there, and the ranks that come there
pub record Here : Type 0 where
  pub at : ℤ → ℤ → Bool
  pub comes : Who

-- outside of everything the variable may have any value, and all ranks come
abbrev pub everywhere : Here
everywhere = record { at = λ n i. true; comes = everyone }

-- with only those of the ranks that come
abbrev pub inside : Here → Who → Here
inside h who = record { at = h.at; comes = λ n i role x. who n i role x && h.comes n i role x }

-- the ranks at an end
abbrev pub is_end : CoreEnd → Who
is_end e n i role x = is_at e n i role x

-- an end as the program names it
abbrev pub peer_of : CoreEnd → Peer
peer_of e = record { role = e.role; at = e.at }
