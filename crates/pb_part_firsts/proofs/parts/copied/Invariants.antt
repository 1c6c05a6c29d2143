use Rattle.std.proofs.Common.{◌≡◌, ℕ, ℤ, ◌||◌, List, drop}
use Rattle.std.specs.List.{All}
use Rattle.pb_affine.specs.declared.lin.Lin.{Lin}
use Rattle.pb_affine.specs.declared.range.NRange.{NRange}
use Rattle.pb_part_areas.specs.Areas.{have}
use Rattle.pb_part_areas.specs.Fits.{Fits}
use Rattle.pb_part_firsts.specs.Parts.{flat, AreAround}
use Rattle.pb_part_firsts.proofs.parts.copied.Given as goal

abbrev pub invariant-loop-part : goal.invariant-loop-part
invariant-loop-part l = record {
  is : (n : ℤ) (role : ℕ) (x : ℤ) → have (flat l.copy.items) n role x || have (flat (drop l.part-index l.parts)) n role x ≡ have (flat l.parts) n role x;
  around : AreAround l.parts → AreAround l.copy.items;
  ahead : AreAround l.parts → AreAround (drop l.part-index l.parts);
  coming : (range : NRange) (cuts : List Lin) → All (Fits range cuts) (flat l.parts) → All (Fits range cuts) (flat (drop l.part-index l.parts));
  fits : (range : NRange) (cuts : List Lin) → All (Fits range cuts) (flat l.parts) → All (Fits range cuts) (flat l.copy.items);
}
