use Rattle.std.proofs.Common.{◌≡◌, ◌++◌, drop, map}
use Rattle.pb_typed.specs.Functions.{body_name}
use Rattle.pb_typed_read.proofs.read.push_names.Given as goal

abbrev pub invariant-loop-function : goal.invariant-loop-function
invariant-loop-function l = l.out.items ++ map body_name (drop l.function-index l.functions) ≡ l.initial.out.items ++ map body_name l.functions
