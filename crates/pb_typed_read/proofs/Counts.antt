-- There is a body for each function.
use Rattle.std.proofs.Common.{◌≡◌, ℕ, List, length, map, ap, ◌∙◌}
use Rattle.std.proofs.lemmas.List.{length-map}
use Rattle.pb_ctree.specs.declared.kernel.KName.{KName}
use Rattle.pb_kernels.specs.declared.file.NamedBody.{NamedBody}
use Rattle.pb_kernels.specs.Merges.{bodies_of}
use Rattle.pb_typed.specs.Functions.{body_name}
use Rattle.pb_typed.specs.declared.function.Function.{Function}

pub many : (functions : List Function) (names : List KName) (file : List NamedBody) (bodies : List (List ℕ)) → names ≡ map body_name functions → bodies ≡ bodies_of names file → length bodies ≡ length functions
many functions names file bodies named is = ap length is ∙ length-map names _ ∙ ap length named ∙ length-map functions body_name
