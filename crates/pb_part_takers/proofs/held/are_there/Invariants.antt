use Rattle.std.proofs.Common.{◌≡◌, ℕ, ℤ, true, drop}
use Rattle.pb_part_areas.specs.Areas.{have}
use Rattle.pb_part_takers.proofs.held.are_there.Given as goal

abbrev pub invariant-loop-a : goal.invariant-loop-a
invariant-loop-a l = (n : ℤ) (role : ℕ) (x : ℤ) → (have (drop l.a-index l.areas) n role x ≡ true → have l.list n role x ≡ true)
    → have l.areas n role x ≡ true → have l.list n role x ≡ true
