use Rattle.std.proofs.Common.{◌≡◌, drop, nat_eq}
use Rattle.std.specs.Cmp.Lexicographic.{pointwise}
use Rattle.std.specs.List.{list_any}
use Rattle.pb_types_fit.proofs.taken.has_role.Given as goal

abbrev pub invariant-loop-role : goal.invariant-loop-role
invariant-loop-role l =
    list_any (λ r. pointwise nat_eq r.name l.name) (drop l.role-index l.role-items) ≡ list_any (λ r. pointwise nat_eq r.name l.name) l.local.roles.items
