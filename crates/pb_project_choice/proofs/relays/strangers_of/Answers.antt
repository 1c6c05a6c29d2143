use Rattle.std.proofs.Common.{subst}
use Rattle.pb_choice_entries.specs.Clashes.{IsAgreement}
use Rattle.pb_project_choice.proofs.Hearing.{strangers_alone}
use Rattle.pb_project_choice.proofs.relays.strangers_of.Goals as goal

pub returns : goal.returns
returns c =
    strangers_alone c.args.chooser c.args.area c.args.source c.in_ok-all.all.items c.in_ok-left.left.items c.in_ok-rest.rest.items c.agreement.result c.end_area.result c.in_ok-all.ensures.is
    (subst (λ t. IsAgreement c.args.area c.args.source t c.agreement.result) c.source_at-from.ensures c.agreement.ensures) c.end_area.ensures c.in_ok-left.ensures.is c.in_ok-rest.ensures.is
