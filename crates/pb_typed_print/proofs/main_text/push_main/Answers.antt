use Rattle.std.proofs.Common.{ap}
use Rattle.pb_local.specs.Tree.{program_of, plain_all}
use Rattle.pb_typed_print.proofs.Mains.{main_put}
use Rattle.pb_typed_print.proofs.main_text.push_main.Goals as goal

pub returns : goal.returns
returns c =
    main_put (program_of c.args.tree.now.local) c.args.types.now (plain_all c.deref.result.now) c.args.out.now.items c.push_front.new.out.items c.push_all.new.out.items c.push_word.new.out.items c.push_finish.new.out.items c.push_finish.result
    (ap plain_all c.deref.ensures.value) c.in_ok-push_front.ensures c.in_ok-push_all.ensures c.in_ok-push_word.ensures c.push_finish.ensures
