use Rattle.std.proofs.Common.{◌≡◌, ℕ, ℤ, ◌||◌, List}
use Rattle.std.specs.List.{All}
use Rattle.pb_affine.specs.declared.lin.Lin.{Lin}
use Rattle.pb_affine.specs.declared.range.NRange.{NRange}
use Rattle.pb_part_areas.specs.Areas.{have}
use Rattle.pb_part_areas.specs.Fits.{Fits}
use Rattle.pb_part_firsts.specs.Parts.{flat, AreAround}
use Rattle.pb_part_firsts.proofs.sides.both_sides.Given as goal

abbrev pub invariant-loop-part : goal.invariant-loop-part
invariant-loop-part l = record {
  is : (n : ℤ) (role : ℕ) (x : ℤ) →
      have (flat l.all.items) n role x || have (flat l.part-iterator.rest.items) n role x ≡ have (flat l.fn.parts.items) n role x || have (flat l.fn.more.items) n role x;
  ahead : AreAround l.fn.more.items → AreAround l.part-iterator.rest.items;
  around : AreAround l.fn.parts.items → AreAround l.fn.more.items → AreAround l.all.items;
  coming : (range : NRange) (cuts : List Lin) → All (Fits range cuts) (flat l.fn.more.items) → All (Fits range cuts) (flat l.part-iterator.rest.items);
  fits : (range : NRange) (cuts : List Lin) → All (Fits range cuts) (flat l.fn.parts.items) → All (Fits range cuts) (flat l.fn.more.items) → All (Fits range cuts) (flat l.all.items);
}
