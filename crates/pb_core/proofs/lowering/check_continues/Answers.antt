use Rattle.std.proofs.Common.{◌≡◌, None, OnOk, IfErr, subst, ap, ◌∙◌}
use Rattle.pb_syntax.specs.Plain.{plain_block}
use Rattle.pb_core_language.specs.FileRules.{astray_in}
use Rattle.pb_core_file_rules.specs.Lowering.{first, Finds}
use Rattle.pb_core.proofs.Faults.{around_nothing}
use Rattle.pb_core.proofs.lowering.check_continues.Goals as goal

pub returns-clause-keeps : goal.returns-clause-keeps
returns-clause-keeps c =
    subst (λ p. OnOk c.refuse.result (p ≡ None)) (c.first_astray_in.ensures ∙ ap (λ names. first (astray_in names (plain_block c.args.file.now.body).list)) around_nothing) c.refuse.ensures.none

pub returns-clause-breaks : goal.returns-clause-breaks
returns-clause-breaks c =
    subst (λ p. IfErr c.refuse.result (λ e. Finds 3 p e)) (c.first_astray_in.ensures ∙ ap (λ names. first (astray_in names (plain_block c.args.file.now.body).list)) around_nothing) c.refuse.ensures.some
