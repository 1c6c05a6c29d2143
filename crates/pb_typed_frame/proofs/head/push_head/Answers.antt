use Rattle.std.proofs.Common.{rules}
use Rattle.pb_local.specs.Tree.{program_of}
use Rattle.pb_typed_frame.proofs.Written.{head_put}
use Rattle.pb_typed_frame.proofs.head.push_head.Goals as goal

pub returns : goal.returns
returns c =
    head_put (program_of c.args.local.now) c.args.types.now.labels.items c.args.types.now.constants.items c.args.out.now.items
    c.push_title.new.out.items c.push_protocol.new.out.items c.push_range.new.out.items c.push_roles.new.out.items c.push_labels.new.out.items c.push_rows.new.out.items c.push_buffers.new.out.items c.push_trace.new.out.items c.push_counts.new.out.items c.push_constants.new.out.items c.push_owns.new.out.items
    (search rules) (search rules) (search rules) (search rules) (search rules) (search rules) (search rules) (search rules) (search rules) (search rules) (search rules)
