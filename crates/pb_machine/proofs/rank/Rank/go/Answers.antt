use Rattle.pb_machine.proofs.Moves.{entered}
use Rattle.pb_machine.proofs.rank.Rank.go.Goals as goal

pub returns-in-Enter-clause-goes : goal.returns-in-Enter-clause-goes
returns-in-Enter-clause-goes c = λ b. entered b c.args.self.now.path c.args.self.now.depth c.in-Enter.depth c.in-Enter.at c.in-Enter.part c.args.go c.in-Enter.is c.requires.room
