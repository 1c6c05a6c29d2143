use Rattle.std.proofs.Common.{◌≡◌, true, false, ◌∙◌, ap, sym, subst, refl}
use Rattle.pb_renew_put.specs.Names.{is_old_name}
use Rattle.pb_renew_put.specs.Phases.{has, keeps, unkept, untouched}
use Rattle.pb_renew_put.specs.Steps.{under}
use Rattle.pb_renew_put.proofs.Apart.{old_file_is}
use Rattle.pb_renew_put.proofs.Copying.{cant_write, copy_made, copy_met}
use Rattle.pb_renew_put.proofs.Leads.{ends_so, from_same, leads_nothing, then_leads}
use Rattle.pb_renew_put.proofs.old.copy_as.Goals as goal

pub returns-in-Ok-false-clause-goes : goal.returns-in-Ok-false-clause-goes
returns-in-Ok-false-clause-goes g c = λ t fresh spare taken number is keeps_old locked.
    copy_met t fresh spare taken locked number _ is (rw (c.in-Ok-false.field-0-test) at c.in-Ok-false.ensures.done)

pub returns-in-Ok-clause-goes : goal.returns-in-Ok-clause-goes
returns-in-Ok-clause-goes g c = λ t fresh spare taken number is keeps_old locked.
    then_leads (copy_made t fresh spare taken locked number _ is keeps_old (rw (c.in-Ok-true.field-0-test) at c.in-Ok-true.ensures.done))
    (λ q at. from_same q at (ends_so (c.in-Ok.ensures.goes t fresh spare taken (subst (λ n. is_old_name t.out n ≡ true) (sym is) (old_file_is t.out number)) (rw (c.in-Ok-true.field-0-test) at c.in-Ok-true.ensures.written) locked)
    (λ p so. so ∙ ap (λ n. under fresh spare (keeps n (has c.args.old.now true)) taken true true false untouched) is)))

pub returns-in-Err-write_old-clause-goes : goal.returns-in-Err-write_old-clause-goes
returns-in-Err-write_old-clause-goes g c = λ t fresh spare taken number is keeps_old locked.
    then_leads (copy_made t fresh spare taken locked number _ is keeps_old (rw (c.in-Ok-true.field-0-test) at c.in-Ok-true.ensures.done))
    (λ q at. from_same q at (ends_so (c.in-Err-write_old.ensures.goes t fresh spare taken (subst (λ n. is_old_name t.out n ≡ true) (sym is) (old_file_is t.out number)) (rw (c.in-Ok-true.field-0-test) at c.in-Ok-true.ensures.written) locked)
    (λ p so. cant_write t fresh spare taken locked so.0 p so.1)))

pub returns-in-Err-clause-goes : goal.returns-in-Err-clause-goes
returns-in-Err-clause-goes g c = λ t fresh spare taken number is keeps_old locked.
    leads_nothing c.in-Err.ensures.failed (cant_write t fresh spare taken locked unkept _ refl)
