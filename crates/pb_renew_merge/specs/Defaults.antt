-- The functions whose bodies are the default ones.
use Rattle.std.specs.Prelude.{Bool, List, [], ◌∷◌, nat_eq, if◌then◌else◌}
use Rattle.std.specs.Cmp.Lexicographic.{pointwise}
use Rattle.std.specs.List.{flat_map}
use Rattle.pb_ctree.specs.declared.kernel.KName.{KName}
use Rattle.pb_kernels.specs.declared.file.NamedBody.{NamedBody}
use Rattle.pb_kernels.specs.Names.{body_of}
use Rattle.pb_typed.specs.Functions.{body_name}
use Rattle.pb_typed.specs.declared.function.Function.{Function}
use Rattle.pb_typed_types.specs.declared.types.Form.{Form}
use Rattle.pb_renew_text.specs.Texts.{default_in}

abbrev pub has_default : Form → Function → List NamedBody → Bool
has_default form f list = pointwise nat_eq (body_of (body_name f) list) (default_in form f)

abbrev pub default_name : Form → Function → List NamedBody → List KName
default_name form f list = if has_default form f list then body_name f ∷ [] else []

-- those of the functions whose bodies are the default ones, in their order
abbrev pub default_names : Form → List Function → List NamedBody → List KName
default_names form functions list = flat_map (λ f. default_name form f list) functions
