use Rattle.std.proofs.lemmas.Result.{err_from_is_err_and}
use Rattle.pb_renew_put.proofs.Copying.{prepared}
use Rattle.pb_renew_put.proofs.Leads.{ends_so, from_same, then_leads}
use Rattle.pb_renew_put.proofs.text.prepare.Goals as goal

pub returns-in_err-keep_old-clause-goes : goal.returns-in_err-keep_old-clause-goes
returns-in_err-keep_old-clause-goes g c = λ fresh spare locked.
    let p = err_from_is_err_and c.from_residual.result c.from_residual.ensures.1 in
    rw (p.1, p.2) (c.in_err-keep_old.ensures.goes fresh spare locked)

pub returns-clause-goes : goal.returns-clause-goes
returns-clause-goes g c = λ fresh spare locked.
    then_leads (c.in_ok-keep_old.ensures.goes fresh spare locked)
    (λ q k. from_same q k.is (ends_so (c.look.ensures.goes fresh spare k.kept k.taken k.file k.out locked) (λ p so. prepared c.look.result _ fresh spare k.kept k.taken p k.done so)))
