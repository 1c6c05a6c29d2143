use Rattle.pb_local.specs.Tree.{program_of}
use Rattle.pb_typed_print.proofs.Programs.{behind_long, spells}
use Rattle.pb_typed_print.proofs.print.print_program.Goals as goal

pub push_main-requires-clause-long : goal.push_main-requires-clause-long
push_main-requires-clause-long c =
    behind_long (program_of c.args.tree.now.local) c.args.types.now c.args.bodies.now.prelude c.args.bodies.now.list.items c.new-out.result.items c.push_before_main.new.out.items c.in_ok-push_before_main.ensures

pub returns : goal.returns
returns c =
    spells c.args.tree.now c.args.types.now c.deref.result.now c.args.bodies.now c.new-out.result.items c.push_before_main.new.out.items c.push_main.new.out.items
    c.deref.ensures.value c.requires.made c.requires.many c.new-out.ensures.items c.in_ok-push_before_main.ensures c.in_ok-push_main.ensures
