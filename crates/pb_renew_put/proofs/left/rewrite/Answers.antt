use Rattle.std.proofs.Common.{◌∙◌, true}
use Rattle.pb_renew_put.specs.Phases.{nothing, has}
use Rattle.pb_renew_put.specs.Steps.{Rewrites, under}
use Rattle.pb_renew_put.proofs.Closing.{rewritten}
use Rattle.pb_renew_put.proofs.Leads.{ends_so, from_same, then_leads}
use Rattle.pb_renew_put.proofs.Nexts.{sets_spare_at}
use Rattle.pb_renew_put.proofs.Ways.{by_err}
use Rattle.pb_renew_put.proofs.left.rewrite.Goals as goal

pub returns-in_err-write_whole-clause-goes : goal.returns-in_err-write_whole-clause-goes
returns-in_err-write_whole-clause-goes g c = λ t b kept taken left are behind before is_so.
    ends_so (c.in_err-write_whole.ensures.goes t (λ own. under (has t.text true) own kept taken true true true left) (sets_spare_at t (under (has t.text true) nothing kept taken true true true left) _ (c.requires.written ∙ are.spare)))
    (λ p at. by_err c.from_residual.result (λ r. Rewrites r t kept taken left p) c.from_residual.ensures.0 (λ fault. at))

pub returns-clause-goes : goal.returns-clause-goes
returns-clause-goes g c = λ t b kept taken left are behind before is_so.
    then_leads (c.in_ok-write_whole.ensures.goes t (λ own. under (has t.text true) own kept taken true true true left) (sets_spare_at t (under (has t.text true) nothing kept taken true true true left) _ (c.requires.written ∙ are.spare)))
    (λ p at. from_same p at (rewritten t _ are b _ kept taken left c.rename.result behind before is_so c.rename.ensures.done c.rename.ensures.failed))
