use Rattle.std.proofs.Common.{rules}
use Rattle.pb_local.specs.Tree.{program_of}
use Rattle.pb_typed_frame.proofs.Written.{fixed_put}
use Rattle.pb_typed_frame.proofs.head.push_fixed.Goals as goal

pub returns : goal.returns
returns c =
    fixed_put (program_of c.args.local.now) c.args.element c.args.count c.args.label.now c.args.out.now.items c.push_own_count.new.out.items c.push_declared.new.out.items
    (search rules) (search rules)
