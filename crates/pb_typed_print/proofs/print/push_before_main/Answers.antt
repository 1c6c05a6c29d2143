use Rattle.pb_local.specs.Tree.{program_of}
use Rattle.pb_typed_print.proofs.Programs.{before_put}
use Rattle.pb_typed_print.proofs.print.push_before_main.Goals as goal

pub returns : goal.returns
returns c =
    before_put (program_of c.args.tree.now.local) c.args.types.now c.deref.result.now c.args.bodies.now.prelude c.args.bodies.now.list.items c.deref-2.result.now
    c.args.out.now.items c.push_head.new.out.items c.push_prelude.new.out.items c.push_places.new.out.items c.push_functions.new.out.items c.push_functions.result
    c.deref.ensures.value c.deref-2.ensures.value c.in_ok-push_head.ensures c.in_ok-push_prelude.ensures c.in_ok-push_places.ensures c.push_functions.ensures
