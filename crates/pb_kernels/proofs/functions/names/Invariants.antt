use Rattle.std.proofs.Common.{drop}
use Rattle.pb_kernels.proofs.Keys.{AreInOrCome}
use Rattle.pb_kernels.proofs.functions.names.Given as goal

abbrev pub invariant-loop-name : goal.invariant-loop-name
invariant-loop-name l = AreInOrCome l.names.keys (drop l.name-index l.list) l.list
