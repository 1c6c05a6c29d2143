use Rattle.std.proofs.Common.{◌≡◌, ℕ, ℤ, true, drop}
use Rattle.pb_part_areas.specs.Areas.{have}
use Rattle.pb_part_areas.proofs.tidy.are_within.Given as goal

abbrev pub invariant-loop-i : goal.invariant-loop-i
invariant-loop-i l = (n : ℤ) (role : ℕ) (x : ℤ) → (have (drop l.i l.list) n role x ≡ true → have l.others n role x ≡ true)
    → have l.list n role x ≡ true → have l.others n role x ≡ true
