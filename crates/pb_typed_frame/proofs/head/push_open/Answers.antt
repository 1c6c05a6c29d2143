use Rattle.std.proofs.Common.{rules}
use Rattle.pb_local.specs.Tree.{program_of}
use Rattle.pb_typed_frame.proofs.Written.{open_put}
use Rattle.pb_typed_frame.proofs.head.push_open.Goals as goal

pub returns : goal.returns
returns c =
    open_put (program_of c.args.local.now) c.args.element c.args.label.now c.args.out.now.items c.push_declared.new.out.items c.push_declared-2.new.out.items c.push_text.new.out.items
    (search rules) (search rules) (search rules)
