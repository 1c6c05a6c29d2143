use Rattle.pb_local.specs.Tree.{program_of}
use Rattle.pb_typed_frame.proofs.Rounds.{two_put}
use Rattle.pb_typed_frame.proofs.functions.push_two.Goals as goal

pub returns-clause-text : goal.returns-clause-text
returns-clause-text c =
    two_put (program_of c.args.local.now) c.args.carried c.args.label.now c.args.bodies.now c.args.at c.args.out.now.items c.push_make.new.out.items c.push_take.new.out.items
    c.in_ok-push_make.ensures c.in_ok-push_take.ensures
