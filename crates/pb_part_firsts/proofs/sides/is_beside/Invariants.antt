use Rattle.std.proofs.Common.{◌≡◌, ℕ, ℤ, ◌&&◌, false, drop}
use Rattle.pb_part_areas.specs.Areas.{have}
use Rattle.pb_part_firsts.specs.Parts.{IsAround}
use Rattle.pb_part_firsts.proofs.sides.is_beside.Given as goal

abbrev pub invariant-loop-a : goal.invariant-loop-a
invariant-loop-a l = IsAround l.part → (n : ℤ) (role : ℕ) (x : ℤ) →
    have l.part.areas.items n role x && have (drop l.a-index l.list) n role x ≡ false → have l.part.areas.items n role x && have l.list n role x ≡ false
