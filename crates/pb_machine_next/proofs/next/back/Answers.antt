use Rattle.std.proofs.Common.{take}
use Rattle.pb_local.specs.Tree.{plain_all}
use Rattle.pb_machine_next.proofs.Arms.{no_loop, back_short}
use Rattle.pb_machine_next.proofs.next.back.Goals as goal

pub returns-in-None-clause-leads : goal.returns-in-None-clause-leads
returns-in-None-clause-leads c = no_loop c.args.body.now c.args.path.now (take c.args.depth c.args.path.now) c.args.id c.in-None.ensures

pub returns-in-Some-clause-room : goal.returns-in-Some-clause-room
returns-in-Some-clause-room c = λ h. back_short (plain_all c.args.body.now) c.args.path.now c.args.depth c.in-Some.depth c.args.id c.requires c.in-Some.ensures
