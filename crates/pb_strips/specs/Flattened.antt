-- Why a file with strips stands for no file.
use Rattle.std.specs.Prelude.{◌≡◌, Some}
use Rattle.pb_strips_syntax.specs.Strips.{PlainStripFile}
use Rattle.pb_strips_faults.specs.declared.fault.ColumnFault.TheVariants as column
use Rattle.pb_strips_faults.specs.Found.{IsFault, HasNoFault}
use Rattle.pb_strips_flatten.specs.Excess.{excess_of}
use Rattle.pb_strips.specs.declared.fault.StripFault.{StripFault}
use Rattle.pb_strips.specs.declared.fault.StripFault.TheVariants.{Width, Plain, Variable, Column, Clash, TooMany, NoMemory}

-- a fault, or a limit that is passed where there is none, or memory ran out
abbrev pub IsRefused : PlainStripFile → StripFault → Type 0
IsRefused f (Width p) = IsFault f (column.Width p)
IsRefused f (Plain p) = IsFault f (column.Plain p)
IsRefused f (Variable p) = IsFault f (column.Variable p)
IsRefused f (Column p) = IsFault f (column.Column p)
IsRefused f (Clash p) = IsFault f (column.Clash p)
IsRefused f (TooMany q p) = HasNoFault f × (excess_of f ≡ Some (record { limit = q; place = p }))
IsRefused f NoMemory = Unit {0}
