use Rattle.std.proofs.Common.{◌≡◌, ℕ, ℤ, ◌&&◌, not, drop}
use Rattle.pb_part_areas.specs.Areas.{has, have}
use Rattle.pb_part_firsts.specs.Parts.{flat, AreAround}
use Rattle.pb_part_firsts.proofs.parts.are_past.Given as goal

abbrev pub invariant-loop-part : goal.invariant-loop-part
invariant-loop-part l = record {
  past : (n : ℤ) (role : ℕ) (x : ℤ) → AreAround l.parts →
      have (flat (drop l.part-index l.parts)) n role x && not (has l.a n role x) ≡ have (flat (drop l.part-index l.parts)) n role x →
      have (flat l.parts) n role x && not (has l.a n role x) ≡ have (flat l.parts) n role x;
  ahead : AreAround l.parts → AreAround (drop l.part-index l.parts);
}
