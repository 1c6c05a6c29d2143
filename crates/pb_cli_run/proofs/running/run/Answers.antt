use Rattle.std.proofs.Common.{Err, ap}
use Rattle.pb_io.specs.Unread.{IsUnread}
use Rattle.pb_cli_run.proofs.Runs.{denied, ran}
use Rattle.pb_cli_run.proofs.running.run.Goals as goal

pub returns-in-Ok-clause-reply : goal.returns-in-Ok-clause-reply
returns-in-Ok-clause-reply g c =
    ran (λ s r k w. g.A.Fn.post c.args.answers (s, (r, (k, tt))) w) (IsUnread (g.F.Folder.steady c.args.folder.now) (g.F.Folder.holds c.args.folder.now) (g.F.Folder.faults c.args.folder.now) (g.F.Folder.faults c.tree_in.new.folder)) c.args.file.now c.args.options (g.F.Folder.holds c.args.folder.now) c.simulate_tree.result (g.O.Sink.taken c.args.out.now) (g.O.Sink.taken c.simulate_tree.new.out)
    c.in-Ok.tree c.in-Ok.ensures.compiled c.simulate_tree.ensures.told

pub returns-in-Err-clause-reply : goal.returns-in-Err-clause-reply
returns-in-Err-clause-reply g c =
    denied (λ s r k w. g.A.Fn.post c.args.answers (s, (r, (k, tt))) w) (IsUnread (g.F.Folder.steady c.args.folder.now) (g.F.Folder.holds c.args.folder.now) (g.F.Folder.faults c.args.folder.now) (g.F.Folder.faults c.tree_in.new.folder)) c.args.file.now c.args.options (g.F.Folder.holds c.args.folder.now) c.refuse.result (g.O.Sink.taken c.args.out.now) (g.O.Sink.taken c.refuse.new.out)
    c.in-Err.why (λ e. record { rose = c.in-Err.ensures.fault (ap Err e); unsure = c.in-Err.ensures.sure (ap Err e) }) c.in-Err.ensures.denied c.refuse.ensures.said
