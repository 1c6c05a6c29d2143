use Rattle.pb_machine.proofs.Phases.{shown_again, kept}
use Rattle.pb_machine.proofs.rank.Rank.settle.Goals as goal

pub returns-clause-fits : goal.returns-clause-fits
returns-clause-fits c =
    kept c.args.tree.now c.args.self.now c.look.new.self c.look.ensures.others c.look.ensures.me c.look.ensures.i c.requires.placed c.look.ensures.moves c.look.ensures.safe

pub returns-clause-shown : goal.returns-clause-shown
returns-clause-shown c = shown_again c.args.tree.now c.args.self.now c.look.new.self c.look.ensures.others c.look.ensures.me c.look.ensures.i
