-- The functions of a program text, their bodies where nothing else is given, and those bodies that the plain text has too.
use Rattle.std.specs.Prelude.{ℕ, if◌then◌else◌, List, [], ◌∷◌, ◌++◌, codes, map}
use Rattle.pb_syntax.specs.declared.core_label.CoreLabel.{CoreLabel}
use Rattle.pb_syntax.specs.declared.core_label.CoreKernel.{CoreKernel}
use Rattle.pb_syntax.specs.declared.core_label.KernelKind.{KernelKind}
use Rattle.pb_syntax.specs.declared.core_label.KernelKind.TheVariants as kernel
use Rattle.pb_local.specs.Pieces.{joined}
use Rattle.pb_local.specs.Tree.{Program}
use Rattle.pb_ctree.specs.Frame.{first_body, other_bodies}
use Rattle.pb_ctree.specs.Functions.{has_words, named}
use Rattle.pb_ctree.specs.declared.kernel.Kind.{Kind}
use Rattle.pb_ctree.specs.declared.kernel.Kind.TheVariants.{Compute, Choice, Make, Take, Room}
use Rattle.pb_ctree.specs.declared.kernel.KName.{KName}
use Rattle.pb_types.specs.declared.carried.Carried.{Carried}
use Rattle.pb_types.specs.declared.carried.Carried.TheVariants.{Words, Fixed, Open}
use Rattle.pb_typed.specs.declared.function.Function.{Function}
use Rattle.pb_typed.specs.declared.function.Role.{Role}
use Rattle.pb_typed.specs.declared.function.Role.TheVariants.{Makes, MakesOwn, GivesRoom, Takes, TakesOwn, Computes, Chooses}
use Rattle.pb_typed.specs.Frame.{first_carried, others_carried, behind_label}

abbrev pub function : Role → List ℕ → Function
function role name = record { role = role; name = name }

abbrev pub label_functions : Carried → CoreLabel → List Function
label_functions Words l = function Makes l.name ∷ function Takes l.name ∷ []
label_functions (Fixed element number) l = function Makes l.name ∷ function Takes l.name ∷ []
label_functions (Open element) l = function MakesOwn l.name ∷ function GivesRoom l.name ∷ function TakesOwn l.name ∷ []

abbrev pub labels_functions : List CoreLabel → List Carried → List Function
labels_functions [] types = []
labels_functions (l ∷ ls) types =
    if has_words l.payload
    then label_functions (first_carried types) l ++ labels_functions ls (others_carried types)
    else labels_functions ls (others_carried types)

abbrev pub kernel_role : KernelKind → Role
kernel_role kernel.Compute = Computes
kernel_role kernel.Choice = Chooses

abbrev pub kernel_function : CoreKernel → Function
kernel_function k = function (kernel_role k.kind) k.name

-- the functions of a program text, in printed order
abbrev pub typed_functions : Program → List Carried → List Function
typed_functions p types = labels_functions p.labels types ++ map kernel_function p.kernels

-- the name that a function's body has
abbrev pub kind_of : Role → Kind
kind_of Makes = Make
kind_of MakesOwn = Make
kind_of GivesRoom = Room
kind_of Takes = Take
kind_of TakesOwn = Take
kind_of Computes = Compute
kind_of Chooses = Choice

abbrev pub body_name : Function → KName
body_name f = named (kind_of f.role) f.name

-- ---- bodies

-- a build says what isn't written yet
abbrev pub warning : List ℕ → List ℕ → List ℕ
warning kind name = joined (codes "#warning \"" ∷ kind ∷ name ∷ codes " is not written yet\"\n" ∷ [])

abbrev pub default_body : Role → List ℕ → List ℕ
default_body Makes name = warning (codes "make_") name
default_body MakesOwn name = warning (codes "make_") name ++ codes "  *count = 0;\n  return 0;\n"
default_body GivesRoom name = warning (codes "room_") name ++ codes "  *most = 0;\n  return 0;\n"
default_body Takes name = []
default_body TakesOwn name = []
default_body Computes name = []
default_body Chooses name = warning (codes "c_") name ++ codes "  return 0;\n"

abbrev pub default_of : Function → List ℕ
default_of f = default_body f.role f.name

abbrev pub default_bodies : Program → List Carried → List (List ℕ)
default_bodies p types = map default_of (typed_functions p types)

-- of a label's bodies those of the functions that the plain text has, and the plain text's other bodies
abbrev pub plain_label : Carried → List (List ℕ) → List (List ℕ) → List (List ℕ)
plain_label Words bodies rest = first_body bodies ∷ first_body (other_bodies bodies) ∷ rest
plain_label (Fixed element number) bodies rest = first_body bodies ∷ first_body (other_bodies bodies) ∷ rest
plain_label (Open element) bodies rest = first_body bodies ∷ first_body (other_bodies (other_bodies bodies)) ∷ rest

abbrev pub plain_after : List CoreLabel → List Carried → List (List ℕ) → List (List ℕ)
plain_after [] types bodies = bodies
plain_after (l ∷ ls) types bodies =
    if has_words l.payload
    then plain_label (first_carried types) bodies (plain_after ls (others_carried types) (behind_label (first_carried types) bodies))
    else plain_after ls (others_carried types) bodies

abbrev pub plain_bodies : Program → List Carried → List (List ℕ) → List (List ℕ)
plain_bodies p types bodies = plain_after p.labels types bodies
