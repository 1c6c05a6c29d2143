-- Ranks by their role and index.
use Rattle.std.specs.Prelude.{ℕ, ℤ, Bool, ◌&&◌, nat_eq, List}
use Rattle.std.specs.Ordering.{int_eq}
use Rattle.pb_affine.specs.Values.{value}
use Rattle.pb_core_language.specs.declared.protocol.CoreRole.{CoreRole}
use Rattle.pb_core_language.specs.declared.tree.CoreEnd.{CoreEnd}
use Rattle.pb_core_language.specs.Ranks.{seats, number_in}
use Rattle.pb_core_language.specs.Rules.{is_seat}

-- the number of the rank with this role and index at N = n, and whether there is one
abbrev pub rank : List CoreRole → ℤ → ℕ → ℤ → ℕ
rank roles n role x = number_in (record { role = role; index = x }) (seats roles n)

abbrev pub is_rank : List CoreRole → ℤ → ℕ → ℤ → Bool
is_rank roles n role x = is_seat (record { role = role; index = x }) (seats roles n)

-- the end asks for this role and index, at N = n and with i for the variable
abbrev pub is_at : CoreEnd → ℤ → ℤ → ℕ → ℤ → Bool
is_at e n i role x = nat_eq e.role role && int_eq (value e.at n i) x
