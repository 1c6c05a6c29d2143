use Rattle.std.proofs.Common.{rules, false, ◌∙◌, refl, ap}
use Rattle.std.proofs.lemmas.List.{take_all, take_rest}
use Rattle.pb_renew_put.specs.Phases.{has}
use Rattle.pb_renew_put.specs.Steps.{Appends}
use Rattle.pb_renew_put.proofs.Leads.{ends_so, leads_here, then_leads}
use Rattle.pb_renew_put.proofs.Ways.{by_err, wrote_more, was_spoiled}
use Rattle.pb_renew_put.proofs.whole.append_all.Goals as goal

pub loop-done-init : goal.loop-done-init
loop-done-init g c = record {
  within = search rules;
  goes = λ t set is. leads_here refl;
  same = refl;
  later = search rules;
}

pub loop-done-preserved : goal.loop-done-preserved
loop-done-preserved g c = record {
  within = search rules;
  goes = λ t set is. then_leads (c.loop-done.invariant.goes t set is)
      (λ q at. wrote_more t _ set is q c.args.bytes.now _ _ c.loop-done.done _ c.in_ok-done.ensures.done c.loop-done.invariant.same (take_rest c.args.bytes.now c.loop-done.done) at);
  same = c.append.ensures.written ∙ c.loop-done.invariant.same;
  later = search rules;
}

pub returns-in_err-done-clause-goes : goal.returns-in_err-done-clause-goes
returns-in_err-done-clause-goes g c = λ t set is. then_leads (c.loop-done.invariant.goes t set is)
    (λ q at. ends_so (was_spoiled t _ set is q _ _ _ c.in_err-done.ensures.failed c.loop-done.invariant.same at)
    (λ p so. by_err c.from_residual.result (λ r. Appends r set c.args.bytes.now p) c.from_residual.ensures.0 (λ fault. so)))

pub returns-clause-goes : goal.returns-clause-goes
returns-clause-goes g c = λ t set is. ends_so (c.loop-done.invariant.goes t set is)
    (λ q at. at ∙ ap (λ l. set (has l false)) (take_all c.loop-done.done c.args.bytes.now c.loop-done-test.false))
