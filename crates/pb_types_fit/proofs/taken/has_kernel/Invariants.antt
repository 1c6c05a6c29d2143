use Rattle.std.proofs.Common.{◌≡◌, drop, nat_eq}
use Rattle.std.specs.Cmp.Lexicographic.{pointwise}
use Rattle.std.specs.List.{list_any}
use Rattle.pb_types_fit.proofs.taken.has_kernel.Given as goal

abbrev pub invariant-loop-kernel : goal.invariant-loop-kernel
invariant-loop-kernel l =
    list_any (λ k. pointwise nat_eq k.name l.name) (drop l.kernel-index l.kernel-items) ≡ list_any (λ k. pointwise nat_eq k.name l.name) l.local.kernels.items
