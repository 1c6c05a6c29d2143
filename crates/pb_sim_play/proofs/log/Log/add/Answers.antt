use Rattle.pb_local.specs.Tree.{program_of}
use Rattle.pb_sim_play.specs.Records.{done_line}
use Rattle.std.proofs.Common.{◌++◌}
use Rattle.pb_sim_play.proofs.Logs.{kept, written, failed}
use Rattle.pb_sim_play.proofs.log.Log.add.Goals as goal

pub returns-in_err-write-clause-front : goal.returns-in_err-write-clause-front
returns-in_err-write-clause-front g c is start text held =
    let more = done_line (program_of c.args.tree.now.local) c.args.done.now in
    failed start (g.O.Sink.taken c.args.out.now) (g.O.Sink.taken c.write.new.out) c.push.new.self.lines.items (text ++ more) c.in_err-write.ensures.front
    (kept start (g.O.Sink.taken c.args.out.now) c.args.self.now.lines.items more c.push.new.self.lines.items text c.in_ok-push.ensures.whole held)

pub returns-in_ok-write-clause-added : goal.returns-in_ok-write-clause-added
returns-in_ok-write-clause-added g c start text held =
    let more = done_line (program_of c.args.tree.now.local) c.args.done.now in
    written start (g.O.Sink.taken c.args.out.now) (g.O.Sink.taken c.write.new.out) c.push.new.self.lines.items c.write.new.self.lines.items (text ++ more)
    c.in_ok-write.ensures.none c.in_ok-write.ensures.whole
    (kept start (g.O.Sink.taken c.args.out.now) c.args.self.now.lines.items more c.push.new.self.lines.items text c.in_ok-push.ensures.whole held)
