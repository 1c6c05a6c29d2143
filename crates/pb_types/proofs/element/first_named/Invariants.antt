use Rattle.std.proofs.Common.{◌≡◌, drop, nat_eq}
use Rattle.std.specs.Prelude.{find}
use Rattle.std.specs.Cmp.Lexicographic.{pointwise}
use Rattle.pb_types.specs.Elements.{spelling}
use Rattle.pb_types.proofs.element.first_named.Given as goal

abbrev pub invariant-loop-element : goal.invariant-loop-element
invariant-loop-element l =
    find (λ element. pointwise nat_eq l.word (spelling element)) l.elements ≡ find (λ element. pointwise nat_eq l.word (spelling element)) (drop l.element-index l.elements)
