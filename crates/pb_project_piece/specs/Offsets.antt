-- The offsets of a role's ends that move.
use Rattle.std.specs.Prelude.{ℤ, int_lt, Bool, true, false, if◌then◌else◌, List, [], ◌∷◌}
use Rattle.pb_project_piece.specs.declared.offsets.Off.{Off}

abbrev pub off_of : Off → ℤ
off_of o = o.off

-- into a descending list, once
abbrev pub put_off : Off → List Off → List Off
put_off c [] = c ∷ []
put_off c (d ∷ ds) = if int_lt d.off c.off then c ∷ d ∷ ds else (if int_lt c.off d.off then d ∷ put_off c ds else d ∷ ds)

-- the rest of a list into which the offset still has to be put, or not
abbrev pub rest_of : Bool → Off → List Off → List Off
rest_of true c ds = put_off c ds
rest_of false c ds = ds
