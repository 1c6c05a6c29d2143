use Rattle.std.proofs.Common.{subst}
use Rattle.pb_choice_entries.specs.Clashes.{IsAgreement}
use Rattle.pb_project_choice.proofs.Hearing.{are_others}
use Rattle.pb_project_choice.proofs.relays.others.Goals as goal

pub returns : goal.returns
returns c =
    are_others c.args.chooser c.args.area c.args.source c.in_ok-all.all.items c.in_ok-left.left.items c.in_ok-rest.rest.items c.agreement.result c.end_area.result (λ n role x. c.in_ok-all.ensures.is n role x) c.in_ok-all.ensures.fits (subst (λ t. IsAgreement c.args.area c.args.source t c.agreement.result) c.source_at-from.ensures c.agreement.ensures) c.end_area.ensures
    c.in_ok-left.ensures c.in_ok-rest.ensures
