use Rattle.std.proofs.Common.{◌∙◌, ap, sym, refl}
use Rattle.std.proofs.lemmas.Result.{err_from_is_err_and}
use Rattle.pb_renew_put.specs.Names.{old_file}
use Rattle.pb_renew_put.proofs.Copying.{no_memory}
use Rattle.pb_renew_put.proofs.Leads.{leads_here}
use Rattle.pb_renew_put.proofs.old.copy_to.Goals as goal

pub returns-in_err-name-clause-goes : goal.returns-in_err-name-clause-goes
returns-in_err-name-clause-goes g c = λ t fresh spare taken is keeps_old locked.
    let p = err_from_is_err_and c.from_residual.result c.from_residual.ensures.1 in
    rw (p.1, p.2) (leads_here (no_memory t fresh spare taken locked _ refl))

pub returns-clause-goes : goal.returns-clause-goes
returns-clause-goes g c = λ t fresh spare taken is keeps_old locked.
    c.copy_as.ensures.goes t fresh spare taken c.args.number (c.deref.ensures ∙ c.in_ok-name.ensures ∙ ap (λ o. old_file o c.args.number) (sym is)) keeps_old locked
