use Rattle.std.proofs.Common.{◌≡◌, drop, nat_eq}
use Rattle.std.specs.Cmp.Lexicographic.{pointwise}
use Rattle.std.specs.List.{list_any}
use Rattle.pb_types_fit.proofs.labels.is_typed.Given as goal

abbrev pub invariant-loop-row : goal.invariant-loop-row
invariant-loop-row l =
    list_any (λ r. pointwise nat_eq r.label.name l.name) (drop l.row-index l.rows) ≡ list_any (λ r. pointwise nat_eq r.label.name l.name) l.rows
