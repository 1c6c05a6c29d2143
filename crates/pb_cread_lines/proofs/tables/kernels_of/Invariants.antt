use Rattle.std.proofs.Common.{◌≡◌, take, map}
use Rattle.pb_cread_lines.proofs.tables.kernels_of.Given as goal

abbrev pub invariant-loop-kernel : goal.invariant-loop-kernel
invariant-loop-kernel l = l.names ≡ take l.kernel-index (map (λ x. x.name) l.kernels)
