-- The names of a file as the program notes them, in the order in which they stand there.
use Rattle.std.specs.Prelude.{ℕ, Bool, true, false, ◌||◌, ◌&&◌, not, nat_eq, if◌then◌else◌, List, [], ◌∷◌, ◌++◌}
use Rattle.pb_text.specs.declared.place.Place.{Place}
use Rattle.pb_text.specs.declared.place.Spot.{Spot}
use Rattle.pb_syntax.specs.declared.tree.End.{End}
use Rattle.pb_core_file_rules.specs.declared.visits.Met.{Met}
use Rattle.pb_core_file_rules.specs.declared.visits.Inside.{Inside}
use Rattle.pb_core_file_rules.specs.declared.visits.NameKind.{NameKind}
use Rattle.pb_core_file_rules.specs.declared.visits.NameKind.TheVariants as N
use Rattle.pb_core_language.specs.Names.{Name, same, is_named, Kind, the_constant, the_protocol, a_role, a_label, a_compute_kernel, a_choice_kernel, a_loop, a_variable, Use, declared, bound, mentioned, Scope, Visit, end_visits}
use Rattle.pb_core_language.specs.FileRules.{is_unknown}
use Rattle.pb_core_file_rules.specs.Lowering.{names_of}

abbrev pub kind_of : Kind → NameKind
kind_of the_constant = N.Constant
kind_of the_protocol = N.Protocol
kind_of a_role = N.Role
kind_of a_label = N.Label
kind_of a_compute_kernel = N.ComputeKernel
kind_of a_choice_kernel = N.ChoiceKernel
kind_of a_loop = N.Loop
kind_of a_variable = N.Variable

abbrev pub kind_no : NameKind → ℕ
kind_no N.Constant = 0
kind_no N.Protocol = 1
kind_no N.Role = 2
kind_no N.Label = 3
kind_no N.ComputeKernel = 4
kind_no N.ChoiceKernel = 5
kind_no N.Loop = 6
kind_no N.Variable = 7

abbrev pub declares : Use → Bool
declares declared = true
declares bound = false
declares mentioned = false

abbrev pub is_astray : List Name → Visit → Use → Bool
is_astray roles v declared = false
is_astray roles v bound = is_named v.spot.name v.scope.loops || is_named v.spot.name v.scope.variables
is_astray roles v mentioned = is_unknown roles v v.kind

abbrev pub noted : Spot → NameKind → Bool → Bool → Met
noted x k d a = record { spot = x; kind = k; declares = d; is_astray = a }

abbrev pub noted_bound : Spot → NameKind → Scope → Met
noted_bound x k scope = noted x k false (is_named x.name scope.loops || is_named x.name scope.variables)

abbrev pub met : List Name → Visit → Met
met roles v = noted v.spot (kind_of v.kind) (declares v.how) (is_astray roles v v.how)

abbrev pub scope_of : Inside → Scope
scope_of i = record { loops = names_of i.loops.now; variables = names_of i.variables.now }

-- the names of a message, in whose scope `inside` its ends are
abbrev pub message_visits : Name → Scope → Scope → Spot → End → End → List Visit
message_visits c scope inside l f t =
    record { spot = l; kind = a_label; how = mentioned; scope = scope } ∷ (end_visits c scope inside f ++ end_visits c scope inside t)

-- ---- the names that break rule 1, told by those before

abbrev pub is_met : Name → List Met → Bool
is_met x [] = false
is_met x (m ∷ ms) = same x m.spot.name || is_met x ms

abbrev pub is_other : Name → NameKind → List Met → Bool
is_other x k [] = false
is_other x k (m ∷ ms) = (same x m.spot.name && not (nat_eq (kind_no k) (kind_no m.kind))) || is_other x k ms

abbrev pub is_wrong : List Met → Met → Bool
is_wrong before m = is_other m.spot.name m.kind before || ((m.declares && is_met m.spot.name before) || m.is_astray)

abbrev pub wrong : List Met → List Met → List Place
wrong before [] = []
wrong before (m ∷ ms) = (if is_wrong before m then m.spot.place ∷ [] else []) ++ wrong (before ++ m ∷ []) ms

-- ---- the same by a table, in which each name stands once

abbrev pub met_names : List Met → List Name
met_names [] = []
met_names (m ∷ ms) = m.spot.name ∷ met_names ms

-- the kind of the name's row is another
abbrev pub is_other_row : Name → NameKind → List Met → Bool
is_other_row x k [] = false
is_other_row x k (m ∷ ms) = if same x m.spot.name then not (nat_eq (kind_no k) (kind_no m.kind)) else is_other_row x k ms

abbrev pub is_wrong_row : List Met → Met → Bool
is_wrong_row rows m = is_other_row m.spot.name m.kind rows || ((m.declares && is_met m.spot.name rows) || m.is_astray)

abbrev pub with_met : List Met → Met → List Met
with_met rows m = if is_met m.spot.name rows then rows else rows ++ m ∷ []

abbrev pub wrong_behind : List Met → List Met → List Place
wrong_behind rows [] = []
wrong_behind rows (m ∷ ms) = (if is_wrong_row rows m then m.spot.place ∷ [] else []) ++ wrong_behind (with_met rows m) ms
