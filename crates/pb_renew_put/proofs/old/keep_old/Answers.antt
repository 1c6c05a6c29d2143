use Rattle.std.proofs.Common.{◌∙◌, ap, refl, sym, false, [], Some, List, ℕ}
use Rattle.std.specs.Option.{option_map}
use Rattle.std.proofs.lemmas.Result.{err_from_is_err_and}
use Rattle.pb_renew_put.specs.Phases.{unkept}
use Rattle.pb_renew_put.proofs.Copying.{kept_after, none_kept, not_kept}
use Rattle.pb_renew_put.proofs.Leads.{ends_so, from_same, leads_here, then_leads}
use Rattle.pb_renew_put.proofs.old.keep_old.Goals as goal

pub returns-then-not-job-clause-goes : goal.returns-then-not-job-clause-goes
returns-then-not-job-clause-goes g c = λ fresh spare locked.
    leads_here (record { kept = unkept; taken = []; file = false; out = false; is = refl; done = not_kept _ _ c.if-not-job.true })

pub returns-in_err-look-in-Some-clause-goes : goal.returns-in_err-look-in-Some-clause-goes
returns-in_err-look-in-Some-clause-goes g c = λ fresh spare locked.
    let p = err_from_is_err_and c.from_residual.result c.from_residual.ensures.1 in
    rw (p.1, p.2) (c.in_err-look-in-Some.ensures.goes fresh spare unkept [] false false locked)

pub returns-in-None-clause-goes : goal.returns-in-None-clause-goes
returns-in-None-clause-goes g c = λ fresh spare locked.
    leads_here (record { kept = unkept; taken = []; file = false; out = false; is = refl; done = none_kept _ _ (ap (λ o. option_map (λ b. b.items) o) c.in-None.is) })

pub returns-in_ok-look-in-Some-clause-goes : goal.returns-in_ok-look-in-Some-clause-goes
returns-in_ok-look-in-Some-clause-goes g c = λ fresh spare locked.
    then_leads (c.in_ok-look-in-Some.ensures.goes fresh spare unkept [] false false locked)
    (λ q at. from_same q at (ends_so (c.copy_old.ensures.goes _ fresh spare (sym c.requires.out) c.if-not-job.false locked)
    (λ p so. kept_after c.copy_old.result _ fresh spare _ p (ap (λ o. option_map (λ b. b.items) o) c.in-Some.is ∙ ap (λ (l : List ℕ). Some l) (sym c.deref.ensures.value)) so)))
