use Rattle.pb_kernels_laws.proofs.Whole.{read_own, merged_own}
use Rattle.pb_kernels_laws.proofs.calls.own_bodies.Goals as goal

pub returns-in-Err : goal.returns-in-Err
returns-in-Err c = read_own c.args.tree.now c.args.text.now c.in-Err.fault c.requires c.in-Err.ensures

pub returns : goal.returns
returns c = merged_own c.args.tree.now c.args.text.now c.in-Ok.file c.merged.result c.requires c.in-Ok.ensures c.merged.ensures
