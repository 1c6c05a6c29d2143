use Rattle.std.proofs.Common.{rules, arith, refl}
use Rattle.std.proofs.lemmas.Result.{err_from_is_err_and}
use Rattle.pb_renew_put.proofs.Copying.{all_olds, copied, taken_too}
use Rattle.pb_renew_put.proofs.Leads.{ends_so, from_same, leads_here, then_leads}
use Rattle.pb_renew_put.proofs.old.copy_old.Goals as goal

pub loop-number-init : goal.loop-number-init
loop-number-init g c = record {
  goes = λ t fresh spare is keeps_old locked. leads_here (record { taken = _; is = refl; all = λ before low high. absurd (omega arith) });
  later = search rules;
}

pub returns-in_err-copy_to-clause-goes : goal.returns-in_err-copy_to-clause-goes
returns-in_err-copy_to-clause-goes g c = λ t fresh spare is keeps_old locked.
    let p = err_from_is_err_and c.from_residual.result c.from_residual.ensures.1 in
    rw (p.1, p.2) (then_leads (c.loop-number.invariant.goes t fresh spare is keeps_old locked)
    (λ q all. from_same q all.is (c.in_err-copy_to.ensures.goes t fresh spare all.taken is keeps_old locked)))

pub returns-then-branch-clause-goes : goal.returns-then-branch-clause-goes
returns-then-branch-clause-goes g c = λ t fresh spare is keeps_old locked.
    then_leads (c.loop-number.invariant.goes t fresh spare is keeps_old locked)
    (λ q all. from_same q all.is (ends_so (c.in_ok-copy_to.ensures.goes t fresh spare all.taken is keeps_old locked)
    (λ p so. copied t fresh spare all.taken c.loop-number.number c.args.old.now p c.in_ok-copy_to.field-0 c.if-branch.true so)))

pub loop-number-preserved : goal.loop-number-preserved
loop-number-preserved g c = record {
  goes = λ t fresh spare is keeps_old locked.
      then_leads (c.loop-number.invariant.goes t fresh spare is keeps_old locked)
      (λ q all. from_same q all.is (ends_so (c.in_ok-copy_to.ensures.goes t fresh spare all.taken is keeps_old locked)
      (λ p so. taken_too t fresh spare c.loop-number.number all.taken p c.args.old.now c.in_ok-copy_to.field-0 c.if-branch.false all.all so)));
  later = search rules;
}

pub returns-clause-goes : goal.returns-clause-goes
returns-clause-goes g c = λ t fresh spare is keeps_old locked.
    ends_so (c.loop-number.invariant.goes t fresh spare is keeps_old locked) (λ q all. all_olds t fresh spare locked c.loop-number.number q c.loop-number-test.false all)
