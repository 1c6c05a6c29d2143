use Rattle.std.proofs.Common.{refl}
use Rattle.pabble_renew.specs.Asked.{asked_by}
use Rattle.pabble_renew.proofs.Plans.{planned_at, unplanned}
use Rattle.pabble_renew.proofs.renewing.plan_at.Goals as goal

pub returns-in-Ok-plan_for-clause-planned : goal.returns-in-Ok-plan_for-clause-planned
returns-in-Ok-plan_for-clause-planned g c =
    planned_at (asked_by c.args.request.now) c.args.place _ _ c.in-Ok.source _ c.in-Ok-plan_for.plan c.in-Ok.ensures.holds c.in-Ok.ensures.source refl
    c.in-Ok-plan_for.ensures.plan c.in-Ok-plan_for.ensures.job c.in-Ok-plan_for.ensures.told c.in-Ok-plan_for.ensures.spared

pub returns-in-Err-plan_for-clause-cause : goal.returns-in-Err-plan_for-clause-cause
returns-in-Err-plan_for-clause-cause g c =
    unplanned (asked_by c.args.request.now) c.args.place _ _ c.in-Ok.source c.in-Err-plan_for.why _ _ _ c.in-Ok.ensures.holds c.in-Ok.ensures.later c.in-Ok.ensures.source
    c.in-Err-plan_for.ensures.read c.in-Err-plan_for.ensures.refused
