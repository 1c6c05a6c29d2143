use Rattle.std.proofs.Common.{rules}
use Rattle.pb_local.specs.Tree.{program_of}
use Rattle.pb_typed_frame.proofs.Written.{functions_put}
use Rattle.pb_typed_frame.proofs.functions.push_functions.Goals as goal

pub returns : goal.returns
returns c =
    let local = c.args.tree.now.local in
    functions_put (program_of local) local.labels.items c.args.types.now local.kernels.items c.args.bodies.now c.rest_of.result.now c.args.out.now.items c.push_labels.new.out.items c.push_kernels.new.out.items
    (search rules) (search rules) (search rules)
