use Rattle.std.proofs.Common.{length, ap, ◌∙◌}
use Rattle.pb_local.specs.Tree.{program_of}
use Rattle.pb_typed.specs.Functions.{typed_functions}
use Rattle.pb_renew_text.specs.Texts.{labels_of}
use Rattle.pb_renew_text.proofs.Plain.{as_many}
use Rattle.pb_renew_text.proofs.text.printed.Goals as goal

pub print_c-requires-clause-many : goal.print_c-requires-clause-many
print_c-requires-clause-many c =
    let program = program_of c.args.wanted.now.tree.local in
    c.requires.many ∙ ap (λ form. length (typed_functions program (labels_of form))) c.in-Plain.is ∙ as_many program
