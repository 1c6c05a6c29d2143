use Rattle.std.proofs.Common.{◌≡◌, ◌++◌, drop, map}
use Rattle.pb_typed.specs.Functions.{kernel_function}
use Rattle.pb_typed_frame.proofs.list.push_kernels.Given as goal

abbrev pub invariant-loop-kernel : goal.invariant-loop-kernel
invariant-loop-kernel l = l.out.items ++ map kernel_function (drop l.kernel-index l.kernels) ≡ l.initial.out.items ++ map kernel_function l.kernels
