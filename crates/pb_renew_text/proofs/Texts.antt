-- The text that is wanted, with old bodies.
use Rattle.std.proofs.Common.{◌≡◌, ℕ, List, length, map, Result, Ok, Err, ap, sym, subst, ◌∙◌}
use Rattle.std.specs.List.{All}
use Rattle.std.specs.Prelude.{IfOk}
use Rattle.std.specs.Global.{Vec}
use Rattle.std.proofs.lemmas.List.{length-map}
use Rattle.pb_local.specs.Tree.{program_of}
use Rattle.pb_ctree.specs.Trees.{IsTree}
use Rattle.pb_ctree.specs.declared.body.Bodies.{Bodies}
use Rattle.pb_kernels.specs.declared.file.NamedBody.{NamedBody}
use Rattle.pb_kernels.specs.Marks.{prelude_name}
use Rattle.pb_kernels.specs.Names.{body_of}
use Rattle.pb_typed.specs.declared.function.Function.{Function}
use Rattle.pb_typed_frame.specs.Functions.{Named}
use Rattle.pb_typed_frame.proofs.Named.{all_named}
use Rattle.pb_renew_text.specs.declared.wanted.Wanted.{Wanted}
use Rattle.pb_renew_text.specs.Texts.{IsPrinted, IsRenewed, body_for, functions_of, labels_of}

-- there is a body for each function
pub many : (wanted : Wanted) (old : List NamedBody) (bodies : Bodies) → bodies.list.items ≡ map (λ f. body_for wanted.form old f) (functions_of wanted) → length bodies.list.items ≡ length (functions_of wanted)
many wanted old bodies e = ap length e ∙ length-map (functions_of wanted) _

pub named : (wanted : Wanted) (list : List Function) → IsTree wanted.tree → list ≡ functions_of wanted → All Named list
named wanted list is e = subst (All Named) (sym e) (all_named (program_of wanted.tree.local) (labels_of wanted.form) is.made)

pub all_made : {E : Type 0} (wanted : Wanted) (old : List NamedBody) (bodies : Bodies) (result : Result (Vec ℕ) E) → IfOk result (λ text. IsPrinted wanted.form wanted.tree bodies text.items)
    → bodies.prelude ≡ body_of prelude_name old → bodies.list.items ≡ map (λ f. body_for wanted.form old f) (functions_of wanted) → IfOk result (λ text. IsRenewed old wanted text.items)
all_made wanted old bodies (Ok text) printed prelude list = record { bodies = bodies; prelude = prelude; list = list; printed = printed }
all_made wanted old bodies (Err fault) printed prelude list = tt
