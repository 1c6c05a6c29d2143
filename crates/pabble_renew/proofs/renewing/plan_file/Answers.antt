use Rattle.pabble_renew.specs.Asked.{asked_by}
use Rattle.pabble_renew.proofs.Plans.{folder_cause, planned_for}
use Rattle.pabble_renew.proofs.renewing.plan_file.Goals as goal

pub returns-in-Ok-plan_at-clause-planned : goal.returns-in-Ok-plan_at-clause-planned
returns-in-Ok-plan_at-clause-planned g c =
    planned_for (asked_by c.args.request.now) c.in-Ok.place c.in-Ok.ensures.left _ _ _ _ c.in-Ok.ensures.place c.in-Ok.ensures.apart c.in-Ok-plan_at.ensures.planned

pub returns-in-Err-plan_at-clause-cause : goal.returns-in-Err-plan_at-clause-cause
returns-in-Err-plan_at-clause-cause g c =
    folder_cause (asked_by c.args.request.now) c.in-Ok.place c.in-Ok.ensures.left c.in-Err-plan_at.why
    (record {
      store = g.S.Store.holds c.args.store.now;
      folder = g.F.Folder.holds c.args.folder.now;
      failed = g.S.Store.faults c.args.store.now;
      failed_now = g.S.Store.faults c.place_for.new.store;
      unread = g.F.Folder.faults c.args.folder.now;
      unread_now = g.F.Folder.faults c.plan_at.new.folder;
    })
    c.in-Ok.ensures.place c.in-Err-plan_at.ensures.cause
