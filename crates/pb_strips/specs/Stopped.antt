-- What each part of flattening says when it stops, in one type.
use Rattle.std.specs.Prelude.{◌≡◌, Some}
use Rattle.pb_strips_syntax.specs.Strips.{PlainStripFile}
use Rattle.pb_strips_faults.specs.declared.fault.ColumnFault.{ColumnFault}
use Rattle.pb_strips_faults.specs.declared.fault.ColumnFault.TheVariants as column
use Rattle.pb_strips_flatten.specs.declared.halt.Halt.{Halt}
use Rattle.pb_strips_flatten.specs.declared.halt.Halt.TheVariants as halt
use Rattle.pb_strips_flatten.specs.Excess.{excess_of}
use Rattle.pb_strips.specs.declared.fault.StripFault.{StripFault}
use Rattle.pb_strips.specs.declared.fault.StripFault.TheVariants.{Width, Plain, Variable, Column, Clash, TooMany, NoMemory}

abbrev pub strip_fault : ColumnFault → StripFault
strip_fault (column.Width p) = Width p
strip_fault (column.Plain p) = Plain p
strip_fault (column.Variable p) = Variable p
strip_fault (column.Column p) = Column p
strip_fault (column.Clash p) = Clash p
strip_fault column.NoMemory = NoMemory

abbrev pub stopped : Halt → StripFault
stopped (halt.TooMany q p) = TooMany q p
stopped halt.NoMemory = NoMemory

-- a limit is passed, or memory ran out
abbrev pub IsExcess : PlainStripFile → StripFault → Type 0
IsExcess f (Width p) = ⊥
IsExcess f (Plain p) = ⊥
IsExcess f (Variable p) = ⊥
IsExcess f (Column p) = ⊥
IsExcess f (Clash p) = ⊥
IsExcess f (TooMany q p) = excess_of f ≡ Some (record { limit = q; place = p })
IsExcess f NoMemory = Unit {0}
