-- The five faults of a file with strips: the places of each, in the order of the file.
use Rattle.std.specs.Prelude.{ℕ, ℤ, pos, ◌+ℤ◌, int_le, Bool, true, false, not, ◌&&◌, ◌||◌, nat_eq, nat_le, is_some, if◌then◌else◌, Option, Some, None, List, [], ◌∷◌, ◌++◌}
use Rattle.std.specs.Cmp.Lexicographic.{pointwise}
use Rattle.pb_text.specs.declared.place.Place.{Place}
use Rattle.pb_text.specs.declared.place.Spot.{Spot}
use Rattle.pb_strips_syntax.specs.declared.tree.Col.{Col}
use Rattle.pb_strips_syntax.specs.declared.tree.StripRole.{StripRole}
use Rattle.pb_strips_syntax.specs.Columns.{Name, column_name, numbers}
use Rattle.pb_strips_syntax.specs.Strips.{PlainStripFile}
use Rattle.pb_strips_faults.specs.declared.site.Around.{Around}
use Rattle.pb_strips_faults.specs.declared.site.EndSite.{EndSite}
use Rattle.pb_strips_faults.specs.Sites.{sites_in}
use Rattle.pb_strips_faults.specs.Spelled.{spelled}

abbrev pub same : Name → Name → Bool
same a b = pointwise nat_eq a b

abbrev pub place_if : Bool → Place → List Place
place_if test place = if test then place ∷ [] else []

abbrev pub sites : PlainStripFile → List EndSite
sites f = sites_in None f.body.list

-- ---- width: a strip's columns don't ascend, or go beyond 63

abbrev pub is_narrow : ℕ × ℕ → Bool
is_narrow ends = nat_le ends.0 ends.1 && nat_le ends.1 63

abbrev pub is_wide : Option (ℕ × ℕ) → Bool
is_wide None = false
is_wide (Some ends) = not (is_narrow ends)

abbrev pub width : List StripRole → List Place
width [] = []
width (r ∷ rs) = place_if (is_wide r.columns) r.role.place ++ width rs

-- ---- plain: an end of a strip has no column, or another end has one. The first declaration of a name says what it is.

abbrev pub columns_at : List StripRole → Name → Option (ℕ × ℕ)
columns_at [] x = None
columns_at (r ∷ rs) x = if same r.role.name x then r.columns else columns_at rs x

abbrev pub differ : Bool → Bool → Bool
differ true b = not b
differ false b = b

abbrev pub plain : List StripRole → List EndSite → List Place
plain roles [] = []
plain roles (e ∷ es) = place_if (differ (is_some (columns_at roles e.role.name)) (is_some e.col)) e.role.place ++ plain roles es

-- ---- variable: the name in a column isn't the variable of the `columns` around

abbrev pub is_variable : Option Around → Name → Bool
is_variable None x = false
is_variable (Some around) x = same around.var x

abbrev pub unless_variable : Option Around → Option Spot → List Place
unless_variable around None = []
unless_variable around (Some var) = place_if (not (is_variable around var.name)) var.place

abbrev pub variable_of : Option Around → Option Col → List Place
variable_of around None = []
variable_of around (Some col) = unless_variable around col.var

abbrev pub variable : List EndSite → List Place
variable [] = []
variable (e ∷ es) = variable_of e.around e.col ++ variable es

-- ---- column: in some copy the column of an end is none of its strip's

abbrev pub is_within : ℕ × ℕ → ℤ → Bool
is_within ends c = int_le (pos ends.0) c && int_le c (pos ends.1)

-- some value of the variable leads out
abbrev pub leads_out : ℕ × ℕ → ℤ → List ℕ → Bool
leads_out ends off [] = false
leads_out ends off (v ∷ vs) = not (is_within ends (pos v +ℤ off)) || leads_out ends off vs

abbrev pub values_of : Option Around → List ℕ
values_of None = []
values_of (Some around) = numbers around.low around.high

-- a number is in each copy the same; where there is no copy, it is in none
abbrev pub has_copy : Option Around → Bool
has_copy None = true
has_copy (Some around) = nat_le around.low around.high

abbrev pub base_is_out : ℕ × ℕ → ℤ → Option Around → Option Spot → Bool
base_is_out ends off around None = has_copy around && not (is_within ends off)
base_is_out ends off around (Some var) = leads_out ends off (values_of around)

abbrev pub is_out : Option (ℕ × ℕ) → Option Col → Option Around → Bool
is_out (Some ends) (Some col) around = base_is_out ends col.off around col.var
is_out (Some ends) None around = false
is_out None col around = false

abbrev pub column : List StripRole → List EndSite → List Place
column roles [] = []
column roles (e ∷ es) = place_if (is_out (columns_at roles e.role.name) e.col e.around) e.role.place ++ column roles es

-- ---- clash: a name of the file is that of a column's role, of whichever declaration

abbrev pub is_one_of : Name → List ℕ → Name → Bool
is_one_of strip [] x = false
is_one_of strip (c ∷ cs) x = same (column_name strip c) x || is_one_of strip cs x

abbrev pub is_column : Spot → Option (ℕ × ℕ) → Name → Bool
is_column strip None x = false
is_column strip (Some ends) x = is_one_of strip.name (numbers ends.0 ends.1) x

abbrev pub is_column_of_some : List StripRole → Name → Bool
is_column_of_some [] x = false
is_column_of_some (r ∷ rs) x = is_column r.role r.columns x || is_column_of_some rs x

abbrev pub clash_among : List StripRole → List Spot → List Place
clash_among roles [] = []
clash_among roles (s ∷ ss) = place_if (is_column_of_some roles s.name) s.place ++ clash_among roles ss

abbrev pub clash : PlainStripFile → List Place
clash f = clash_among f.roles (spelled f)
