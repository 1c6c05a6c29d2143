use Rattle.std.proofs.Common.{◌∙◌}
use Rattle.pb_machine_next.proofs.Arms.{round_next}
use Rattle.pb_machine_next.proofs.state.State.round.Goals as goal

pub returns-clause-next : goal.returns-clause-next
returns-clause-next c = λ p b path t h. c.turn_on.ensures.next b path ∙ round_next p c.args.self.now.me c.args.self.now.i b path t c.args.depth c.args.after c.args.high h
