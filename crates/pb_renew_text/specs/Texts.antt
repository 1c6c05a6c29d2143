-- The text of a tree with old bodies.
use Rattle.std.specs.Prelude.{◌≡◌, ℕ, Bool, true, not, ◌&&◌, List, [], map, if◌then◌else◌}
use Rattle.pb_local.specs.Tree.{program_of}
use Rattle.pb_ctree.specs.Functions.{default_of, named}
use Rattle.pb_ctree.specs.Texts.{Spells}
use Rattle.pb_ctree.specs.declared.body.Bodies.{Bodies}
use Rattle.pb_ctree.specs.declared.kernel.Kind.TheVariants.{Room}
use Rattle.pb_ctree.specs.declared.tree.CTree.{CTree}
use Rattle.pb_kernels.specs.declared.file.NamedBody.{NamedBody}
use Rattle.pb_kernels.specs.Marks.{prelude_name}
use Rattle.pb_kernels.specs.Names.{body_of, is_among}
use Rattle.pb_types.specs.declared.carried.Carried.{Carried}
use Rattle.pb_typed_types.specs.declared.types.Form.{Form}
use Rattle.pb_typed_types.specs.declared.types.Form.TheVariants.{Plain, Program}
use Rattle.pb_typed.specs.declared.function.Function.{Function}
use Rattle.pb_typed.specs.declared.function.Role.{Role}
use Rattle.pb_typed.specs.declared.function.Role.TheVariants.{Makes, MakesOwn, GivesRoom, Takes, TakesOwn, Computes, Chooses}
use Rattle.pb_typed.specs.Functions as F
use Rattle.pb_typed.specs.Functions.{body_name, typed_functions}
use Rattle.pb_typed.specs.Texts.{IsProgramText}
use Rattle.pb_renew_text.specs.declared.wanted.Wanted.{Wanted}

-- in a plain text each label carries its words
abbrev pub labels_of : Form → List Carried
labels_of Plain = []
labels_of (Program types) = types.labels.items

-- the functions of a text, in printed order
abbrev pub functions_of : Wanted → List Function
functions_of wanted = typed_functions (program_of wanted.tree.local) (labels_of wanted.form)

-- the elements of the label with this name were in the kernels' own memory
abbrev pub was_open : List NamedBody → List ℕ → Bool
was_open old name = is_among (named Room name) old

-- the parameters allow the old body
abbrev pub allows : List NamedBody → Role → List ℕ → Bool
allows old Makes name = not (was_open old name)
allows old MakesOwn name = was_open old name
allows old GivesRoom name = true
allows old Takes name = not (was_open old name)
allows old TakesOwn name = true
allows old Computes name = true
allows old Chooses name = true

-- a function has an old body that goes on
abbrev pub goes_on : List NamedBody → Function → Bool
goes_on old f = is_among (body_name f) old && allows old f.role f.name

-- the body where nothing else is given
abbrev pub default_in : Form → Function → List ℕ
default_in Plain f = default_of (body_name f).kind
default_in (Program types) f = F.default_of f

-- a function's old body, where one goes on, and else the default one
abbrev pub body_for : Form → List NamedBody → Function → List ℕ
body_for form old f = if goes_on old f then body_of (body_name f) old else default_in form f

-- the bytes are the text of the tree in this form
abbrev pub IsPrinted : Form → CTree → Bodies → List ℕ → Type 0
IsPrinted Plain tree bodies text = Spells tree bodies text
IsPrinted (Program types) tree bodies text = IsProgramText tree types bodies text

-- the bytes are the text that is wanted, each function with its old body, where one goes on, or the default one, and with the old
-- prelude
pub record IsRenewed (old : List NamedBody) (wanted : Wanted) (text : List ℕ) : Type 0 where
  pub bodies : Bodies
  pub prelude : bodies.prelude ≡ body_of prelude_name old
  pub list : bodies.list.items ≡ map (λ f. body_for wanted.form old f) (functions_of wanted)
  pub printed : IsPrinted wanted.form wanted.tree bodies text
