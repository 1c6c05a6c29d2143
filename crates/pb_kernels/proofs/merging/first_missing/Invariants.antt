use Rattle.std.proofs.Common.{◌≡◌, drop}
use Rattle.pb_kernels.specs.Merges.{first_missing}
use Rattle.pb_kernels.proofs.merging.first_missing.Given as goal

abbrev pub invariant-loop-function : goal.invariant-loop-function
invariant-loop-function l = first_missing l.functions l.file ≡ first_missing (drop l.function-index l.functions) l.file
