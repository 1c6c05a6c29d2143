use Rattle.pb_local.specs.Tree.{program_of}
use Rattle.pb_sim_play.specs.Records.{done_line}
use Rattle.pb_sim_play.proofs.Kept.{lines_added}
use Rattle.pb_sim_play.proofs.record.Record.add.Goals as goal

pub returns-in-Ok-clause-added : goal.returns-in-Ok-clause-added
returns-in-Ok-clause-added g c start turns w v more held =
    lines_added c.args.self.now c.in-Lines.log start (g.O.Sink.taken c.args.out.now) (g.O.Sink.taken c.add.new.out) (program_of c.args.tree.now.local) turns w v
    (done_line (program_of c.args.tree.now.local) c.args.done.now) c.add.new.self.lines.items c.in-Lines.is more c.in-Ok.ensures.added held
