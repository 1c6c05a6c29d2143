-- The faults of ends alone.
use Rattle.std.specs.Prelude.{◌≡◌, Some, None, List}
use Rattle.pb_strips_syntax.specs.declared.tree.StripRole.{StripRole}
use Rattle.pb_strips_faults.specs.declared.fault.ColumnFault.{ColumnFault}
use Rattle.pb_strips_faults.specs.declared.fault.ColumnFault.TheVariants.{Width, Plain, Variable, Column, Clash, NoMemory}
use Rattle.pb_strips_faults.specs.declared.site.EndSite.{EndSite}
use Rattle.pb_strips_faults.specs.Faults.{plain, variable, column}
use Rattle.pb_strips_faults.specs.Found.{first}

-- the fault of the ends that counts, or memory ran out
abbrev pub IsEndFault : List StripRole → List EndSite → ColumnFault → Type 0
IsEndFault roles ends (Width p) = ⊥
IsEndFault roles ends (Plain p) = first (plain roles ends) ≡ Some p
IsEndFault roles ends (Variable p) = (first (plain roles ends) ≡ None) × (first (variable ends) ≡ Some p)
IsEndFault roles ends (Column p) = (first (plain roles ends) ≡ None) × (first (variable ends) ≡ None) × (first (column roles ends) ≡ Some p)
IsEndFault roles ends (Clash p) = ⊥
IsEndFault roles ends NoMemory = Unit {0}

pub record HasNoEndFault (roles : List StripRole) (ends : List EndSite) : Type 0 where
  pub in_columns : first (plain roles ends) ≡ None
  pub bound : first (variable ends) ≡ None
  pub within : first (column roles ends) ≡ None
