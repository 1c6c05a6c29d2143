-- Two counts whose sum has few stretches, since they have few together.
use Rattle.std.proofs.Common.{◌≡◌, ◌<◌, ◌≤◌, ◌+◌, ℕ, ℤ, pos, ◌+ℤ◌, ◌-ℤ◌, ◌≤ℤ◌, ◌<ℤ◌, length, subst, arith}
use Rattle.std.proofs.lemmas.Int.{ints}
use Rattle.pb_cost_pieces.specs.declared.join.Join.TheVariants.{Sum}
use Rattle.pb_cost_pieces.specs.Lines.{value_in, AreStretches}
use Rattle.pb_cost_joins.specs.declared.count.Count.{Count}
use Rattle.pb_cost_joins.specs.Counts.{IsCount}
use Rattle.pb_cost_joins.specs.Merging.{both_in}
use Rattle.pb_cost_joins.proofs.Ahead.{ahead_of}
use Rattle.pb_cost_joins.proofs.Counts.{both_tame}
use Rattle.pb_cost_joins.proofs.Tame.{tame_light}
use Rattle.pb_cost_blocks.specs.Running.{HasFew}
use Rattle.pb_cost_blocks.proofs.Growing.{has_stretches}
use Rattle.pb_cost_blocks.proofs.Shorter.{shorter}

below_first : (x : ℤ) → (x -ℤ pos 1) <ℤ x
below_first x = omega (arith, ints)

before_first : (x : ℤ) → (x -ℤ pos 1) ≤ℤ x
before_first x = omega (arith, ints)

right_behind : (x : ℤ) → x ≤ℤ ((x -ℤ pos 1) +ℤ pos 1)
right_behind x = omega (arith, ints)

few_from : (k n : ℕ) → k < n → n ≤ 4097 → k ≤ 4096
few_from k n h g = omega (arith, h, g)

pub few_together : (a b : Count) → IsCount a → IsCount b → b.span ≡ a.span → (a.weight +ℤ b.weight) ≤ℤ pos 4100000 → (length a.list.items + length b.list.items) ≤ 4097 → HasFew a.span (both_in Sum a.list.items b.list.items)
few_together a b is_a is_b span light few =
    let tame = tame_light (a.weight +ℤ b.weight) (both_in Sum a.list.items b.list.items) a.span.from a.span.to light (both_tame Sum a b is_a is_b span) in
    let found = has_stretches (both_in Sum a.list.items b.list.items) a.span.from a.span.to a.span.from_low a.span.to_high tame a.span.to_low in
    let right = subst (λ s. AreStretches (value_in b.list.items) s.to s.from b.list.items) span is_b.stretches in
    let fewer = shorter (value_in a.list.items) (value_in b.list.items) a.span.to a.span.from (a.span.from -ℤ pos 1) found.0 a.list.items b.list.items (below_first a.span.from) found.1
    (ahead_of (value_in a.list.items) a.span.to (a.span.from -ℤ pos 1) a.span.from a.list.items (before_first a.span.from) (right_behind a.span.from) is_a.stretches)
    (ahead_of (value_in b.list.items) a.span.to (a.span.from -ℤ pos 1) a.span.from b.list.items (before_first a.span.from) (right_behind a.span.from) right) in
    record { list = found.0; are = found.1; few = few_from (length found.0) (length a.list.items + length b.list.items) fewer few }
