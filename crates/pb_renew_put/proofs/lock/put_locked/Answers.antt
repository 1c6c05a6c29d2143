use Rattle.pb_renew_put.proofs.Falling.{lock_away}
use Rattle.pb_renew_put.proofs.Leads.{then_leads}
use Rattle.pb_renew_put.proofs.lock.put_locked.Goals as goal

pub returns-in-Ok-clause-goes : goal.returns-in-Ok-clause-goes
returns-in-Ok-clause-goes g c = c.in-Ok.ensures.goes

pub returns-in-Err-clause-goes : goal.returns-in-Err-clause-goes
returns-in-Err-clause-goes g c =
    rw c.without.ensures.same (then_leads c.in-Err.ensures.goes (λ p falls. lock_away _ _ c.requires.files _ p _ _ _ falls c.without.ensures.later c.without.ensures.away))
