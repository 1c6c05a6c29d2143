use Rattle.std.proofs.Common.{ap, take}
use Rattle.pb_machine.proofs.Phases.{going_moves}
use Rattle.pb_machine.proofs.rank.Rank.look.Goals as goal

pub returns-in-Going-clause-moves : goal.returns-in-Going-clause-moves
returns-in-Going-clause-moves c =
    going_moves c.args.tree.now c.args.self.now c.deref.result.now c.deref-in-Going.result.now _ c.look.new.self.ahead c.in-Going.is c.deref.ensures.value c.deref-in-Going.ensures.value (ap (take c.args.self.now.depth) c.deref-in-Going-2.ensures.value) c.requires.tree c.requires.placed c.look.ensures.next
