use Rattle.pb_renew_put.proofs.Closing.{not_restored}
use Rattle.pb_renew_put.proofs.Leads.{then_leads}
use Rattle.pb_renew_put.proofs.left.restore.Goals as goal

pub returns-in-Err-clause-goes : goal.returns-in-Err-clause-goes
returns-in-Err-clause-goes g c = λ t b kept taken left are behind before is_so.
    then_leads (c.in-Err.ensures.goes t b kept taken left are behind before is_so)
    (λ p at. not_restored t _ are kept taken left p is_so _ _ _ c.in-Err.ensures.later c.in-Err.ensures.fault at c.without.ensures.away c.without.ensures.later)
