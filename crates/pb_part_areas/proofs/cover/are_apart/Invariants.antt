use Rattle.std.proofs.Common.{◌≡◌, ℕ, ℤ, ◌&&◌, not, drop}
use Rattle.pb_part_areas.specs.Areas.{has, have}
use Rattle.pb_part_areas.proofs.cover.are_apart.Given as goal

abbrev pub invariant-loop-a : goal.invariant-loop-a
invariant-loop-a l = (n : ℤ) (role : ℕ) (x : ℤ) → have (drop l.a-index l.list) n role x && not (has l.b n role x) ≡ have (drop l.a-index l.list) n role x
    → have l.list n role x && not (has l.b n role x) ≡ have l.list n role x
