-- What is wrong with a types file beside a program, in the file's order.
use Rattle.std.specs.Prelude.{ℕ, ◌+◌, ◌*◌, Bool, true, false, ◌&&◌, List, [], ◌∷◌, ◌++◌, length, Option, Some, None, nat_eq, nat_le, nat_lt, if◌then◌else◌}
use Rattle.std.specs.List.{list_any}
use Rattle.std.specs.Cmp.Lexicographic.{pointwise}
use Rattle.pb_text.specs.declared.place.Place.{Place}
use Rattle.pb_syntax.specs.declared.tree.Payload.{Payload}
use Rattle.pb_syntax.specs.declared.tree.Payload.TheVariants.{Unit as NoWords, Int32, Uint32}
use Rattle.pb_syntax.specs.declared.core_label.CoreLabel.{CoreLabel}
use Rattle.pb_local.specs.Tree.{Program}
use Rattle.pb_local.specs.Tables.{label_at}
use Rattle.pb_types.specs.declared.element.Element.{Element}
use Rattle.pb_types.specs.Elements.{size, is_complex}
use Rattle.pb_types.specs.declared.tree.Constant.{Constant}
use Rattle.pb_types.specs.declared.tree.TypeRow.{TypeRow}
use Rattle.pb_types.specs.declared.tree.Extent.{Extent}
use Rattle.pb_types.specs.declared.tree.Extent.TheVariants as extents
use Rattle.pb_types.specs.Plain.{PlainTypes}
use Rattle.pb_types_fit.specs.declared.fault.FitFault.{FitFault}
use Rattle.pb_types_fit.specs.declared.fault.FitFault.TheVariants as fault
use Rattle.pb_types_fit.specs.declared.constants.TheConstants.{MOST_CONSTANTS}
use Rattle.pb_types_fit.specs.declared.counts.TheConstants.{MOST_BYTES}
use Rattle.pb_types_fit.specs.Orders.{orders_all}
use Rattle.pb_types_fit.specs.Taken.{is_taken}

-- a fault, where this holds
abbrev pub wrong : Bool → FitFault → Option FitFault
wrong b f = if b then Some f else None

-- the first fault, or else the next
infixr 5 ◌or_else◌
abbrev pub ◌or_else◌ : Option FitFault → Option FitFault → Option FitFault
(Some f) or_else next = Some f
None or_else next = next

-- the first fault of these, each of which is looked at with those before it
abbrev pub first_wrong : {A : Type 0} → (List A → A → Option FitFault) → List A → List A → Option FitFault
first_wrong fault_of earlier [] = None
first_wrong fault_of earlier (x ∷ xs) = fault_of earlier x or_else first_wrong fault_of (earlier ++ x ∷ []) xs

-- ---- constants

-- one of these has the name
abbrev pub is_constant : List ℕ → List Constant → Bool
is_constant name constants = list_any (λ c. pointwise nat_eq c.name.name name) constants

abbrev pub constant_fault : Program → List Constant → Constant → Option FitFault
constant_fault p earlier c =
    wrong (nat_le MOST_CONSTANTS (length earlier)) (fault.TooManyConstants c.name.place)
    or_else wrong (is_constant c.name.name earlier) (fault.ConstantTwice c.name.place)
    or_else wrong (is_taken p c.name.name) (fault.NameTaken c.name.place)

-- the value of the constant of this name
abbrev pub value_of : List Constant → List ℕ → Option ℕ
value_of [] name = None
value_of (c ∷ cs) name = if pointwise nat_eq c.name.name name then Some c.value else value_of cs name

-- ---- labels

-- the number of the label of this name, where the first of these has the number n
abbrev pub number_from : ℕ → List CoreLabel → List ℕ → Option ℕ
number_from n [] name = None
number_from n (l ∷ ls) name = if pointwise nat_eq l.name name then Some n else number_from (n + 1) ls name

-- it has no words
abbrev pub is_empty : Payload → Bool
is_empty NoWords = true
is_empty (Int32 count) = false
is_empty (Uint32 count) = false

-- one of these is for the label
abbrev pub is_typed : List ℕ → List TypeRow → Bool
is_typed name rows = list_any (λ r. pointwise nat_eq r.label.name name) rows

abbrev pub is_too_large : Element → ℕ → Bool
is_too_large element count = nat_lt MOST_BYTES (count * size element)

-- messages of so many elements
abbrev pub count_fault : Element → ℕ → Place → Option FitFault
count_fault element count place =
    wrong (nat_eq count 0) (fault.ZeroCount place)
    or_else wrong (is_too_large element count) (fault.TooLarge place)

abbrev pub named_fault : Element → Option ℕ → Place → Option FitFault
named_fault element None place = Some (fault.UnknownConstant place)
named_fault element (Some count) place = count_fault element count place

abbrev pub extent_fault : List Constant → Element → Extent → Option FitFault
extent_fault constants element extents.One = None
extent_fault constants element (extents.Number count place) = count_fault element count place
extent_fault constants element (extents.Constant name) = named_fault element (value_of constants name.name) name.place
extent_fault constants element extents.Open = None

-- the label of this number has the row
abbrev pub label_fault : Program → List TypeRow → TypeRow → ℕ → Option FitFault
label_fault p earlier r n =
    wrong (is_empty (label_at p n).payload) (fault.NoPayload r.label.place)
    or_else wrong (is_typed r.label.name earlier) (fault.LabelTwice r.label.place)
    or_else wrong (is_complex r.carries.element && orders_all n p.body) (fault.Unordered r.carries.place)

abbrev pub number_fault : Program → List TypeRow → TypeRow → Option ℕ → Option FitFault
number_fault p earlier r None = Some (fault.UnknownLabel r.label.place)
number_fault p earlier r (Some n) = label_fault p earlier r n

abbrev pub row_fault : Program → List Constant → List TypeRow → TypeRow → Option FitFault
row_fault p constants earlier r =
    number_fault p earlier r (number_from 0 p.labels r.label.name)
    or_else extent_fault constants r.carries.element r.extent

-- ---- a file

abbrev pub file_fault : Program → PlainTypes → Option FitFault
file_fault p f = first_wrong (constant_fault p) [] f.constants or_else first_wrong (row_fault p f.constants) [] f.rows
