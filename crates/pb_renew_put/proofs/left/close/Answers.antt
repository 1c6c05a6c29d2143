use Rattle.std.proofs.Common.{true, refl}
use Rattle.pb_renew_put.specs.Phases.{grown, has, nothing}
use Rattle.pb_renew_put.specs.Steps.{Closes, under}
use Rattle.pb_renew_put.proofs.Closing.{settled_then_put}
use Rattle.pb_renew_put.proofs.Leads.{leads_nothing}
use Rattle.pb_renew_put.proofs.Ways.{by_err}
use Rattle.pb_renew_put.proofs.left.close.Goals as goal

pub returns-in_err-settle-clause-goes : goal.returns-in_err-settle-clause-goes
returns-in_err-settle-clause-goes g c = λ t kept taken are some done.
    leads_nothing c.in_err-settle.ensures.failed (by_err c.from_residual.result (λ r. Closes r t kept taken (under (has t.text true) nothing kept taken true true true grown)) c.from_residual.ensures.0 (λ fault. (grown, refl, refl)))

pub returns-clause-goes : goal.returns-clause-goes
returns-clause-goes g c = λ t kept taken are some done.
    settled_then_put t _ are kept taken c.rename.result some done c.in_ok-settle.ensures.done c.rename.ensures.done c.rename.ensures.failed
