use Rattle.std.proofs.Common.{◌∙◌}
use Rattle.pb_syntax.specs.Plain.{plain_file}
use Rattle.pb_core_language.specs.Names.{visits}
use Rattle.pb_core_language.specs.FileRules.{role_names}
use Rattle.pb_core.proofs.Faults.{right_found}
use Rattle.pb_core.proofs.lowering.first_misnamed.Goals as goal

pub returns : goal.returns
returns c = right_found (role_names c.args.file.now.roles.items) (visits (plain_file c.args.file.now)) c.deref.result.now _ c.in_ok-found.ensures (c.deref.ensures.value ∙ c.in_ok-list.ensures)
