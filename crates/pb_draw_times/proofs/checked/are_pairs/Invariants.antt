use Rattle.std.proofs.Common.{◌≡◌, ℕ, ◌<◌, Some}
use Rattle.pb_draw_times.specs.Pairs.{link, IsPair}
use Rattle.pb_draw_times.proofs.checked.are_pairs.Given as goal

abbrev pub invariant-loop-one : goal.invariant-loop-one
invariant-loop-one l = (k other : ℕ) → k < l.one → link l.mates k ≡ Some other → IsPair l.entries l.mates k other
