use Rattle.std.proofs.Common.{◌≡◌, drop, nat_eq}
use Rattle.std.specs.Cmp.Lexicographic.{pointwise}
use Rattle.std.specs.List.{list_any}
use Rattle.pb_types_fit.proofs.constants.is_constant.Given as goal

abbrev pub invariant-loop-constant : goal.invariant-loop-constant
invariant-loop-constant l =
    list_any (λ c. pointwise nat_eq c.name.name l.name) (drop l.constant-index l.constants) ≡ list_any (λ c. pointwise nat_eq c.name.name l.name) l.constants
