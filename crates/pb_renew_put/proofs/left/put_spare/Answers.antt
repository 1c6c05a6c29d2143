use Rattle.pb_renew_put.proofs.Falling.{fills_sooner, spare_away}
use Rattle.pb_renew_put.proofs.Leads.{ends_so, from_same, then_leads}
use Rattle.pb_renew_put.proofs.left.put_spare.Goals as goal

pub returns-in-Ok-clause-goes : goal.returns-in-Ok-clause-goes
returns-in-Ok-clause-goes g c =
    then_leads c.in-Ok.ensures.goes
    (λ q r. from_same q r.is (ends_so (c.finish.ensures.goes r.kept r.taken r.done) (λ p so. fills_sooner c.finish.result _ _ _ _ p c.raise.ensures.later so)))

pub returns-in-Err-clause-goes : goal.returns-in-Err-clause-goes
returns-in-Err-clause-goes g c =
    rw c.without.ensures.same (then_leads c.in-Err.ensures.goes (λ p fell. spare_away _ _ c.requires.files _ p _ _ _ fell c.in-Err.ensures.fault c.without.ensures.later c.without.ensures.away))
