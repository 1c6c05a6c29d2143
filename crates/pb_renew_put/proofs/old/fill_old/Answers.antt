use Rattle.std.proofs.Common.{true, false}
use Rattle.pb_renew_put.specs.Phases.{keeps, untouched}
use Rattle.pb_renew_put.specs.Steps.{FillsCopy, under}
use Rattle.pb_renew_put.proofs.Copying.{copy_sets, copy_settled}
use Rattle.pb_renew_put.proofs.Leads.{ends_so, from_same, then_leads}
use Rattle.pb_renew_put.proofs.Ways.{by_err}
use Rattle.pb_renew_put.proofs.old.fill_old.Goals as goal

pub returns-in_err-write_whole-clause-goes : goal.returns-in_err-write_whole-clause-goes
returns-in_err-write_whole-clause-goes g c = λ t fresh spare taken old is locked.
    ends_so (c.in_err-write_whole.ensures.goes t (λ own. under fresh spare (keeps c.args.name.now own) taken true true false untouched) (copy_sets t fresh spare taken locked c.args.name.now _ old is))
    (λ p at. by_err c.from_residual.result (λ r. FillsCopy r fresh spare c.args.name.now taken c.args.old.now p) c.from_residual.ensures.0 (λ fault. (at.0, at.2)))

pub returns-clause-goes : goal.returns-clause-goes
returns-clause-goes g c = λ t fresh spare taken old is locked.
    then_leads (c.in_ok-write_whole.ensures.goes t (λ own. under fresh spare (keeps c.args.name.now own) taken true true false untouched) (copy_sets t fresh spare taken locked c.args.name.now _ old is))
    (λ q at. from_same q at (copy_settled t fresh spare taken locked c.args.name.now _ c.settle.result old c.settle.ensures.done c.settle.ensures.failed))
