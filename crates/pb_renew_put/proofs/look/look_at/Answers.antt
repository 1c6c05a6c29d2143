use Rattle.std.proofs.Common.{inr, refl}
use Rattle.pb_renew_put.proofs.Leads.{leads_nothing}
use Rattle.pb_renew_put.proofs.Ways.{looked_other, looked_same}
use Rattle.pb_renew_put.proofs.look.look_at.Goals as goal

pub returns-in-Ok-true-clause-goes : goal.returns-in-Ok-true-clause-goes
returns-in-Ok-true-clause-goes g c = λ t p locked. looked_same t p _ _ c.in-Ok-true.field-0 locked c.in-Ok-true.ensures.done c.in-Ok-true.field-0-test

pub returns-in-Ok-false-clause-goes : goal.returns-in-Ok-false-clause-goes
returns-in-Ok-false-clause-goes g c = λ t p locked. looked_other t p _ _ c.in-Ok-false.field-0 locked c.in-Ok-false.ensures.done c.in-Ok-false.field-0-test

pub returns-in-Err-clause-goes : goal.returns-in-Err-clause-goes
returns-in-Err-clause-goes g c = λ t p locked. leads_nothing c.in-Err.ensures.failed (inr (refl, refl))
