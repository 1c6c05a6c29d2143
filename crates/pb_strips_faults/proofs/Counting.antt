-- The fault that counts, by its parts.
use Rattle.std.proofs.Common.{◌≡◌, None}
use Rattle.pb_strips_syntax.specs.Strips.{PlainStripFile}
use Rattle.pb_strips_faults.specs.declared.fault.ColumnFault.{ColumnFault}
use Rattle.pb_strips_faults.specs.declared.fault.ColumnFault.TheVariants.{Width, Plain, Variable, Column, Clash, NoMemory}
use Rattle.pb_strips_faults.specs.Faults.{sites}
use Rattle.pb_strips_faults.specs.Found.{first_width, first_clash, IsFault, HasNoFault}
use Rattle.pb_strips_faults.specs.Parts.{IsEndFault, HasNoEndFault}

pub end_fault_counts : (f : PlainStripFile) (e : ColumnFault) → first_width f ≡ None → IsEndFault f.roles (sites f) e → IsFault f e
end_fault_counts f (Width p) w h = absurd h
end_fault_counts f (Plain p) w h = (w, h)
end_fault_counts f (Variable p) w h = (w, h.0, h.1)
end_fault_counts f (Column p) w h = (w, h.0, h.1, h.2)
end_fault_counts f (Clash p) w h = absurd h
end_fault_counts f NoMemory w h = h

pub nothing_counts : (f : PlainStripFile) → first_width f ≡ None → HasNoEndFault f.roles (sites f) → first_clash f ≡ None → HasNoFault f
nothing_counts f w n c = record { narrow = w; in_columns = n.in_columns; bound = n.bound; within = n.within; own = c }
