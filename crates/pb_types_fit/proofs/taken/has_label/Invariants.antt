use Rattle.std.proofs.Common.{◌≡◌, drop, nat_eq}
use Rattle.std.specs.Cmp.Lexicographic.{pointwise}
use Rattle.std.specs.List.{list_any}
use Rattle.pb_types_fit.proofs.taken.has_label.Given as goal

abbrev pub invariant-loop-label : goal.invariant-loop-label
invariant-loop-label l =
    list_any (λ it. pointwise nat_eq it.name l.name) (drop l.label-index l.label-items) ≡ list_any (λ it. pointwise nat_eq it.name l.name) l.local.labels.items
