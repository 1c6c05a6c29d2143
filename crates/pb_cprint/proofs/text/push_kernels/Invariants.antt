use Rattle.std.proofs.Common.{◌≡◌, ◌++◌, ◌+◌, drop}
use Rattle.pb_cprint.specs.Framed.{kernels_written}
use Rattle.pb_cprint.proofs.text.push_kernels.Given as goal

abbrev pub invariant-loop-kernel : goal.invariant-loop-kernel
invariant-loop-kernel l = record {
  at : l.at ≡ l.start + l.kernel-index;
  text : l.out.items ++ kernels_written (drop l.kernel-index l.kernels) (drop l.at l.bodies) ≡ l.initial.out.items ++ kernels_written l.kernels (drop l.start l.bodies);
}
