use Rattle.std.proofs.Common.{◌≡◌, take, map}
use Rattle.pb_judge_log.proofs.tables.names_of_kernels.Given as goal

abbrev pub invariant-loop-kernel : goal.invariant-loop-kernel
invariant-loop-kernel l = l.names ≡ take l.kernel-index (map (λ x. x.name) l.kernels)
