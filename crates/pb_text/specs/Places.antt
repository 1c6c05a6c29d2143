-- Places in a file.
use Rattle.std.specs.Prelude.{ℕ, ◌+◌, ◌-◌, ◌^◌, List, [], ◌∷◌, min, nat_eq, if◌then◌else◌}
use Rattle.pb_text.specs.declared.place.Place.{Place}

-- numbers of places stop
abbrev pub one_more : ℕ → ℕ
one_more n = min (n + 1) (2 ^ 32 - 1)

abbrev pub first_place : Place
first_place = record { line = 1; col = 1 }

-- the place behind a byte: a line feed ends a line
abbrev pub place_behind : Place → ℕ → Place
place_behind place byte =
    if nat_eq byte 10 then record { line = one_more place.line; col = 1 } else record { line = place.line; col = one_more place.col }

abbrev pub place_after : Place → List ℕ → Place
place_after place [] = place
place_after place (byte ∷ bytes) = place_after (place_behind place byte) bytes
