use Rattle.std.proofs.Common.{◌≡◌, ◌++◌, drop}
use Rattle.pb_kernels.specs.Merges.{bodies_of}
use Rattle.pb_kernels.proofs.merging.push_bodies.Given as goal

abbrev pub invariant-loop-function : goal.invariant-loop-function
invariant-loop-function l =
    l.out.items ++ bodies_of (drop l.function-index l.functions) l.file ≡ l.initial.out.items ++ bodies_of l.functions l.file
