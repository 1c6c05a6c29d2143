use Rattle.std.proofs.Common.{refl, true}
use Rattle.pb_renew_put.specs.Phases.{has}
use Rattle.pb_renew_put.proofs.Falling.{cant_write_yet, fills_sooner, spare_busy, spare_ready}
use Rattle.pb_renew_put.proofs.Leads.{ends_so, from_same, then_leads}
use Rattle.pb_renew_put.proofs.left.put_both.Goals as goal

pub returns-in-Ok-true-clause-goes : goal.returns-in-Ok-true-clause-goes
returns-in-Ok-true-clause-goes g c =
    then_leads (spare_ready _ _ c.requires.files (rw (c.in-Ok-true.field-0-test) at c.in-Ok-true.ensures.done))
    (λ q at. from_same q at (ends_so c.put_spare.ensures.goes (λ p so. fills_sooner c.put_spare.result _ _ _ _ p c.make.ensures.cause.later so)))

pub returns-in-Ok-false-clause-goes : goal.returns-in-Ok-false-clause-goes
returns-in-Ok-false-clause-goes g c = spare_busy _ _ c.requires.files _ _ c.make.ensures.cause.later (rw (c.in-Ok-false.field-0-test) at c.in-Ok-false.ensures.done)

pub returns-in-Err-clause-goes : goal.returns-in-Err-clause-goes
returns-in-Err-clause-goes g c = cant_write_yet _ _ c.requires.files (has c.args.job.now.text.items true) _ _ refl c.in-Err.ensures.cause.failed c.in-Err.ensures.failed
