use Rattle.std.proofs.Common.{ap, refl, true, false}
use Rattle.std.specs.Option.{option_map}
use Rattle.std.proofs.lemmas.Result.{err_from_is_err_and}
use Rattle.pb_renew_put.specs.Jobs.{behind_of}
use Rattle.pb_renew_put.specs.Phases.{has, nothing}
use Rattle.pb_renew_put.proofs.Falling.{falls_here, risen, text_put, text_stays}
use Rattle.pb_renew_put.proofs.Leads.{ends_so, from_same, then_leads}
use Rattle.pb_renew_put.proofs.text.put_text.Goals as goal

pub returns-in_err-prepare-clause-goes : goal.returns-in_err-prepare-clause-goes
returns-in_err-prepare-clause-goes g c =
    let p = err_from_is_err_and c.from_residual.result c.from_residual.ensures.1 in
    rw (p.1, p.2) (ends_so (c.in_err-prepare.ensures.goes (has c.args.job.now.text.items true) nothing refl) (λ q fell. falls_here c.in_err-prepare.field-0.0 _ q _ _ fell c.in_err-prepare.ensures.fault))

pub returns-in-Ok-clause-goes : goal.returns-in-Ok-clause-goes
returns-in-Ok-clause-goes g c =
    then_leads (c.in_ok-prepare.ensures.goes (has c.args.job.now.text.items true) nothing refl)
    (λ q r. from_same q r.is (text_put _ _ c.requires.files r.kept r.taken (ap (λ o. option_map behind_of o) c.requires.alone) r.done c.in-Ok.ensures.done))

pub returns-in-Err-clause-goes : goal.returns-in-Err-clause-goes
returns-in-Err-clause-goes g c =
    then_leads (c.in_ok-prepare.ensures.goes (has c.args.job.now.text.items true) nothing refl)
    (λ q r. from_same q r.is (ends_so (text_stays _ _ c.requires.files nothing r.kept r.taken false c.in-Err.ensures.failed)
    (λ p fell. falls_here _ _ p _ _ fell (risen _ _ _ c.prepare.ensures.later c.in-Err.ensures.cause.failed))))
