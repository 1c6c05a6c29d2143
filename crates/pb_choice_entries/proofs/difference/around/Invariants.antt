use Rattle.std.proofs.Common.{◌≡◌, ℕ, ℤ, true, ◌||◌, drop}
use Rattle.pb_part_areas.specs.Areas.{has, have}
use Rattle.pb_choice_entries.proofs.difference.around.Given as goal

abbrev pub invariant-loop-area : goal.invariant-loop-area
invariant-loop-area l = (n : ℤ) (role : ℕ) (x : ℤ) → have l.list n role x ≡ true → has l.all n role x || have (drop l.area-index l.list) n role x ≡ true
