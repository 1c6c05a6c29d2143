use Rattle.pb_renew_put.proofs.Closing.{spare_made, spare_met, spare_unmade, shifted}
use Rattle.pb_renew_put.proofs.Leads.{ends_so, from_same, then_leads}
use Rattle.pb_renew_put.proofs.left.put_back.Goals as goal

pub returns-in-Ok-true-clause-goes : goal.returns-in-Ok-true-clause-goes
returns-in-Ok-true-clause-goes g c = λ t b kept taken left are behind before is_so.
    then_leads (spare_made t _ are kept taken left (rw (c.in-Ok-true.field-0-test) at c.in-Ok-true.ensures.done))
    (λ q at. from_same q at (ends_so (c.restore.ensures.goes t b kept taken left are behind before is_so) (λ p so. shifted t kept taken c.restore.result _ _ _ p c.make.ensures.cause.later so)))

pub returns-in-Ok-false-clause-goes : goal.returns-in-Ok-false-clause-goes
returns-in-Ok-false-clause-goes g c = λ t b kept taken left are behind before is_so.
    spare_met t _ are kept taken left is_so _ _ c.make.ensures.cause.later (rw (c.in-Ok-false.field-0-test) at c.in-Ok-false.ensures.done)

pub returns-in-Err-clause-goes : goal.returns-in-Err-clause-goes
returns-in-Err-clause-goes g c = λ t b kept taken left are behind before is_so.
    spare_unmade t _ are kept taken left is_so _ _ c.in-Err.ensures.cause.failed c.make.ensures.cause.later c.in-Err.ensures.failed
