use Rattle.pb_renew_put.proofs.Copying.{copy_away}
use Rattle.pb_renew_put.proofs.Leads.{then_leads}
use Rattle.pb_renew_put.proofs.old.write_old.Goals as goal

pub returns-in-Err-clause-goes : goal.returns-in-Err-clause-goes
returns-in-Err-clause-goes g c = λ t fresh spare taken old is locked.
    then_leads (c.in-Err.ensures.goes t fresh spare taken old is locked) (λ p at. copy_away t fresh spare taken locked _ p _ _ old at c.without.ensures.away)
