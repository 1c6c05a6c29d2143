use Rattle.pb_renew_put.proofs.Falling.{ends_sooner, lock_busy, lock_ready, lock_unmade}
use Rattle.pb_renew_put.proofs.Leads.{ends_so, from_same, then_leads}
use Rattle.pb_renew_put.proofs.lock.put_alone.Goals as goal

pub returns-in-Ok-true-clause-goes : goal.returns-in-Ok-true-clause-goes
returns-in-Ok-true-clause-goes g c =
    then_leads (lock_ready _ _ c.requires (rw (c.in-Ok-true.field-0-test) at c.in-Ok-true.ensures.done))
    (λ q at. from_same q at (ends_so c.put_locked.ensures.goes (λ p so. ends_sooner c.put_locked.result _ _ _ _ p c.make.ensures.cause.later so)))

pub returns-in-Ok-false-clause-goes : goal.returns-in-Ok-false-clause-goes
returns-in-Ok-false-clause-goes g c = lock_busy _ _ c.requires _ _ c.make.ensures.cause.later (rw (c.in-Ok-false.field-0-test) at c.in-Ok-false.ensures.done)

pub returns-in-Err-clause-goes : goal.returns-in-Err-clause-goes
returns-in-Err-clause-goes g c = lock_unmade _ _ c.requires _ _ c.in-Err.ensures.cause.failed c.in-Err.ensures.failed
