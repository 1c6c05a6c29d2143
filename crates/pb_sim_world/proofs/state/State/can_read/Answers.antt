use Rattle.std.proofs.Common.{◌∙◌}
use Rattle.pb_sim_world.proofs.Probing.{takes_reads}
use Rattle.pb_sim_world.proofs.state.State.can_read.Goals as goal

pub returns-in-Some : goal.returns-in-Some
returns-in-Some c = c.takes.ensures ∙ takes_reads c.args.self.now c.args.rank c.index.result.now c.args.from c.in-Some.label c.requires.sound c.requires.there c.index.ensures c.requires.waits c.in-Some.ensures
