use Rattle.std.proofs.Common.{◌≡◌, ◌<◌, ℕ, []}
use Rattle.pb_judge_lists.specs.Places.{left_of}
use Rattle.pb_judge_lists.proofs.lists.Lists.least_left.Given as goal

abbrev pub invariant-loop-rank : goal.invariant-loop-rank
invariant-loop-rank l = (q : ℕ) → q < l.rank → (left_of l.self).entries q ≡ []
