use Rattle.pb_local.specs.Tree.{program_of}
use Rattle.pb_typed_frame.proofs.Rounds.{three_put}
use Rattle.pb_typed_frame.proofs.functions.push_three.Goals as goal

pub returns-clause-text : goal.returns-clause-text
returns-clause-text c =
    three_put (program_of c.args.local.now) c.args.element c.args.label.now c.args.bodies.now c.args.at c.args.out.now.items c.push_make.new.out.items c.push_room.new.out.items c.push_take.new.out.items
    c.in_ok-push_make.ensures c.in_ok-push_room.ensures c.in_ok-push_take.ensures
