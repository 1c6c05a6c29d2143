-- One role, where it has no index.
use Rattle.std.specs.Prelude.{ℕ, ℤ, pos, if◌then◌else◌, List, [], ◌∷◌}
use Rattle.pb_text.specs.declared.place.Place.{Place}
use Rattle.pb_affine.specs.Values.{value, range}
use Rattle.pb_core_language.specs.declared.protocol.CoreRole.{CoreRole}
use Rattle.pb_core_language.specs.Tree.{Mark}
use Rattle.pb_core_language.specs.Lists.{is_empty}

-- the role's number and place, where its indices are none
abbrev pub if_none : ℕ → Place → List ℤ → List Mark
if_none number place indices = if is_empty indices then record { number = number; place = place } ∷ [] else []

abbrev pub if_empty : ℕ → CoreRole → ℤ → List Mark
if_empty number r n = if_none number r.place (range (value r.low n (pos 0)) (value r.high n (pos 0)))
