use Rattle.std.proofs.Common.{refl}
use Rattle.pb_renew_put.specs.Phases.{broken}
use Rattle.pb_renew_put.specs.Steps.{Writes}
use Rattle.pb_renew_put.proofs.Leads.{ends_so, then_leads}
use Rattle.pb_renew_put.proofs.Ways.{by_err, synced_last}
use Rattle.pb_renew_put.proofs.whole.write_whole.Goals as goal

pub returns-in_err-append_all-clause-goes : goal.returns-in_err-append_all-clause-goes
returns-in_err-append_all-clause-goes g c = λ t set is. ends_so (c.in_err-append_all.ensures.goes t set is)
    (λ p at. by_err c.from_residual.result (λ r. Writes r set c.args.bytes.now p) c.from_residual.ensures.0 (λ fault. (broken, refl, at)))

pub returns-clause-goes : goal.returns-clause-goes
returns-clause-goes g c = λ t set is. then_leads (c.in_ok-append_all.ensures.goes t set is)
    (λ q at. synced_last t _ set is q c.sync.result _ _ c.sync.ensures.done c.sync.ensures.failed c.append_all.ensures.written at)
