use Rattle.std.proofs.Common.{◌≡◌, ℕ, ◌<◌, None}
use Rattle.pb_cases.specs.Numbers.{nth}
use Rattle.pb_cases.specs.Search.{best_at}
use Rattle.pb_cases.proofs.region.first_of_role.Given as goal

abbrev pub invariant-loop-i : goal.invariant-loop-i
invariant-loop-i l = (j : ℕ) → j < l.i → best_at l.wanted l.a l.b (nth l.numbers j) ≡ None
