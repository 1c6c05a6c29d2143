use Rattle.std.proofs.Common.{◌≡◌, ◌++◌, ◌≤ℤ◌, ◌⊎◌, pos, ◌+ℤ◌}
use borrow.Author.Gap.{gap}
use Rattle.pb_affine.specs.Values.{range}
use Rattle.pb_plain.proofs.numbers.range.Given as goal

abbrev pub invariant-loop-x : goal.invariant-loop-x
invariant-loop-x l = l.list.items ++ range l.x l.high ≡ range l.low l.high

abbrev pub decreases-loop-x : goal.decreases-loop-x
decreases-loop-x l = gap l.x l.high
