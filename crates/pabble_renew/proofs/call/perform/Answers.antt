use Rattle.std.proofs.Common.{sym, true≢false, ◌∙◌}
use Rattle.pabble_renew.specs.Asked.{asked_by}
use Rattle.pabble_renew.proofs.Told.{done, undone, which}
use Rattle.pabble_renew.proofs.call.perform.Goals as goal

pub returns-in-Ok-clause-answers : goal.returns-in-Ok-clause-answers
returns-in-Ok-clause-answers g c =
    done (asked_by c.args.request.now)
    (record {
      store = g.S.Store.holds c.args.store.now;
      folder = g.F.Folder.holds c.args.folder.now;
      failed = g.S.Store.faults c.args.store.now;
      failed_now = g.S.Store.faults c.renew_file.new.store;
      unread = g.F.Folder.faults c.args.folder.now;
      unread_now = g.F.Folder.faults c.renew_file.new.folder;
    })
    _ _ _ _ _ _ c.tell_done.ensures.nothing c.in-Ok.ensures.apart c.in-Ok.ensures.done c.in-Ok.ensures.did c.in-Ok.ensures.rest (λ e. absurd (true≢false (sym e ∙ c.in-Ok.ensures.apart)))

pub returns-in-Err-clause-answers : goal.returns-in-Err-clause-answers
returns-in-Err-clause-answers g c =
    undone (asked_by c.args.request.now)
    (record {
      store = g.S.Store.holds c.args.store.now;
      folder = g.F.Folder.holds c.args.folder.now;
      failed = g.S.Store.faults c.args.store.now;
      failed_now = g.S.Store.faults c.renew_file.new.store;
      unread = g.F.Folder.faults c.args.folder.now;
      unread_now = g.F.Folder.faults c.renew_file.new.folder;
    })
    _ _ _ _ _ _ c.help.ensures.nothing c.in-Err.fault _ _ c.ending.ensures c.help.ensures.later c.in-Err.ensures.cause c.in-Err.ensures.spares c.in-Err.ensures.lock c.in-Err.ensures.tried c.in-Err.ensures.rest
    (λ e. which c.in-Err.fault (c.in-Err.ensures.written e))
