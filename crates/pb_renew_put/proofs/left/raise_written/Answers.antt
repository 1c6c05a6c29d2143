use Rattle.std.proofs.Common.{refl, true}
use Rattle.std.proofs.lemmas.Result.{err_from_is_err_and}
use Rattle.pb_renew_put.specs.Jobs.{behind_of, task_of}
use Rattle.pb_renew_put.specs.Phases.{has}
use Rattle.pb_renew_put.proofs.Closing.{raised_so}
use Rattle.pb_renew_put.proofs.Falling.{text_stays}
use Rattle.pb_renew_put.proofs.Leads.{from_same, then_leads}
use Rattle.pb_renew_put.proofs.Looking.{left_fell, left_looked}
use Rattle.pb_renew_put.proofs.left.raise_written.Goals as goal

pub returns-in_err-prepare-clause-goes : goal.returns-in_err-prepare-clause-goes
returns-in_err-prepare-clause-goes g c =
    let p = err_from_is_err_and c.from_residual.result c.from_residual.ensures.1 in
    rw (p.1, p.2) (c.in_err-prepare.ensures.goes (has c.args.job.now.text.items true) (has c.args.leaving.now.bodies.items true) refl)

pub returns-in_err-look_at-clause-goes : goal.returns-in_err-look_at-clause-goes
returns-in_err-look_at-clause-goes g c =
    let p = err_from_is_err_and c.from_residual-in_err-look_at.result c.from_residual-in_err-look_at.ensures.1 in
    rw (p.1, p.2) (then_leads (c.in_ok-prepare.ensures.goes (has c.args.job.now.text.items true) (has c.args.leaving.now.bodies.items true) refl)
    (λ q r. from_same q r.is (left_fell _ (behind_of c.args.leaving.now) _ _ r.kept r.taken _ c.in_err-look_at.field-0.0 refl c.requires.files.apart c.requires.leaving c.requires.files.left (c.in_err-look_at.ensures.goes _ _ refl))))

pub returns-in-Ok-clause-goes : goal.returns-in-Ok-clause-goes
returns-in-Ok-clause-goes g c =
    then_leads (c.in_ok-prepare.ensures.goes (has c.args.job.now.text.items true) (has c.args.leaving.now.bodies.items true) refl)
    (λ q r. from_same q r.is (then_leads (c.in_ok-look_at.ensures.goes (task_of c.args.job.now) _ refl)
    (λ p at. from_same p (left_looked (task_of c.args.job.now) (behind_of c.args.leaving.now) _ _ r.kept r.taken _ p c.requires.files.apart c.requires.leaving c.requires.files.left at)
    (raised_so _ _ c.requires.files (behind_of c.args.leaving.now) r.kept r.taken c.requires.leaving r.done c.in-Ok.ensures.done))))

pub returns-in-Err-clause-goes : goal.returns-in-Err-clause-goes
returns-in-Err-clause-goes g c =
    then_leads (c.in_ok-prepare.ensures.goes (has c.args.job.now.text.items true) (has c.args.leaving.now.bodies.items true) refl)
    (λ q r. from_same q r.is (then_leads (c.in_ok-look_at.ensures.goes (task_of c.args.job.now) _ refl)
    (λ p at. from_same p (left_looked (task_of c.args.job.now) (behind_of c.args.leaving.now) _ _ r.kept r.taken _ p c.requires.files.apart c.requires.leaving c.requires.files.left at)
    (text_stays _ _ c.requires.files (has c.args.leaving.now.bodies.items true) r.kept r.taken true c.in-Err.ensures.failed))))
