use Rattle.std.proofs.Common.{◌≡◌, ◌++◌, drop, map}
use Rattle.pb_ctree.specs.Functions.{default_of}
use Rattle.pb_ctree.proofs.kernels.push_defaults.Given as goal

abbrev pub invariant-loop-name : goal.invariant-loop-name
invariant-loop-name l = l.out.items ++ map (λ f. default_of f.kind) (drop l.name-index l.names) ≡ l.initial.out.items ++ map (λ f. default_of f.kind) l.names
