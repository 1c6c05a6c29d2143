-- What each label carries, and what the fit of a types file answers.
use Rattle.std.specs.Prelude.{◌≡◌, ◌⊎◌, ℕ, List, [], ◌∷◌, map, Option, Some, None, nat_eq, if◌then◌else◌}
use Rattle.std.specs.Cmp.Lexicographic.{pointwise}
use Rattle.pb_syntax.specs.declared.core_label.CoreLabel.{CoreLabel}
use Rattle.pb_local.specs.Tree.{Program}
use Rattle.pb_types.specs.declared.element.Element.{Element}
use Rattle.pb_types.specs.declared.carried.Carried.{Carried}
use Rattle.pb_types.specs.declared.carried.Carried.TheVariants.{Words, Fixed, Open}
use Rattle.pb_types.specs.declared.tree.Constant.{Constant}
use Rattle.pb_types.specs.declared.tree.TypeRow.{TypeRow}
use Rattle.pb_types.specs.declared.tree.Extent.{Extent}
use Rattle.pb_types.specs.declared.tree.Extent.TheVariants as extents
use Rattle.pb_types.specs.Plain.{PlainTypes}
use Rattle.pb_types_fit.specs.declared.fault.FitFault.{FitFault}
use Rattle.pb_types_fit.specs.declared.fault.FitFault.TheVariants as fault
use Rattle.pb_types_fit.specs.Faults.{value_of, file_fault}

-- where no constant has a name, that is a fault of the file
abbrev pub or_none : Option ℕ → ℕ
or_none None = 0
or_none (Some n) = n

abbrev pub of_extent : List Constant → Element → Extent → Carried
of_extent constants element extents.One = Fixed element 1
of_extent constants element (extents.Number count place) = Fixed element count
of_extent constants element (extents.Constant name) = Fixed element (or_none (value_of constants name.name))
of_extent constants element extents.Open = Open element

-- what the row of this name says; a label without a row carries words
abbrev pub carried_in : List Constant → List TypeRow → List ℕ → Carried
carried_in constants [] name = Words
carried_in constants (r ∷ rs) name = if pointwise nat_eq r.label.name name then of_extent constants r.carries.element r.extent else carried_in constants rs name

abbrev pub carried : PlainTypes → CoreLabel → Carried
carried f l = carried_in f.constants f.rows l.name

abbrev pub IsFitFault : Program → PlainTypes → FitFault → Type 0
IsFitFault p f why = (file_fault p f ≡ Some why) ⊎ ((file_fault p f ≡ None) × (why ≡ fault.NoMemory))

-- what each label carries, in the order of the labels
abbrev pub IsFit : Program → PlainTypes → List Carried → Type 0
IsFit p f list = (file_fault p f ≡ None) × (list ≡ map (carried f) p.labels)
