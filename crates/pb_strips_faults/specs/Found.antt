-- The fault of a file that counts: the least of width, plain, variable, column and clash, at its first place.
use Rattle.std.specs.Prelude.{◌≡◌, Option, Some, None, List, [], ◌∷◌}
use Rattle.pb_text.specs.declared.place.Place.{Place}
use Rattle.pb_strips_syntax.specs.Strips.{PlainStripFile}
use Rattle.pb_strips_faults.specs.declared.fault.ColumnFault.{ColumnFault}
use Rattle.pb_strips_faults.specs.declared.fault.ColumnFault.TheVariants.{Width, Plain, Variable, Column, Clash, NoMemory}
use Rattle.pb_strips_faults.specs.Faults.{sites, width, plain, variable, column, clash}

abbrev pub first : List Place → Option Place
first [] = None
first (p ∷ ps) = Some p

abbrev pub first_width : PlainStripFile → Option Place
first_width f = first (width f.roles)

abbrev pub first_plain : PlainStripFile → Option Place
first_plain f = first (plain f.roles (sites f))

abbrev pub first_variable : PlainStripFile → Option Place
first_variable f = first (variable (sites f))

abbrev pub first_column : PlainStripFile → Option Place
first_column f = first (column f.roles (sites f))

abbrev pub first_clash : PlainStripFile → Option Place
first_clash f = first (clash f)

-- the fault that counts, or memory ran out
abbrev pub IsFault : PlainStripFile → ColumnFault → Type 0
IsFault f (Width p) = first_width f ≡ Some p
IsFault f (Plain p) = (first_width f ≡ None) × (first_plain f ≡ Some p)
IsFault f (Variable p) = (first_width f ≡ None) × (first_plain f ≡ None) × (first_variable f ≡ Some p)
IsFault f (Column p) = (first_width f ≡ None) × (first_plain f ≡ None) × (first_variable f ≡ None) × (first_column f ≡ Some p)
IsFault f (Clash p) = (first_width f ≡ None) × (first_plain f ≡ None) × (first_variable f ≡ None) × (first_column f ≡ None) × (first_clash f ≡ Some p)
IsFault f NoMemory = Unit {0}

pub record HasNoFault (f : PlainStripFile) : Type 0 where
  pub narrow : first_width f ≡ None
  pub in_columns : first_plain f ≡ None
  pub bound : first_variable f ≡ None
  pub within : first_column f ≡ None
  pub own : first_clash f ≡ None
