use Rattle.std.proofs.Common.{◌≡◌, ℕ, ℤ, ◌||◌, ◌&&◌, false, List}
use Rattle.std.specs.List.{All}
use Rattle.pb_affine.specs.declared.lin.Lin.{Lin}
use Rattle.pb_affine.specs.declared.range.NRange.{NRange}
use Rattle.pb_part_areas.specs.Areas.{have}
use Rattle.pb_part_areas.specs.Fits.{Fits}
use Rattle.pb_part_firsts.specs.Parts.{flat, AreAround}
use Rattle.pb_part_firsts.proofs.sides.sides_of.Given as goal

abbrev pub invariant-loop-part : goal.invariant-loop-part
invariant-loop-part l = record {
  is : (n : ℤ) (role : ℕ) (x : ℤ) →
      (have (flat l.met.items) n role x || have (flat l.others.items) n role x) || have (flat l.part-iterator.rest.items) n role x ≡ have (flat l.fn.parts.items) n role x;
  apart : AreAround l.fn.parts.items → (n : ℤ) (role : ℕ) (x : ℤ) → have (flat l.others.items) n role x && have l.list n role x ≡ false;
  ahead : AreAround l.fn.parts.items → AreAround l.part-iterator.rest.items;
  around : AreAround l.fn.parts.items → AreAround l.met.items × AreAround l.others.items;
  coming : (range : NRange) (cuts : List Lin) → All (Fits range cuts) (flat l.fn.parts.items) → All (Fits range cuts) (flat l.part-iterator.rest.items);
  fits : (range : NRange) (cuts : List Lin) → All (Fits range cuts) (flat l.fn.parts.items) → All (Fits range cuts) (flat l.met.items) × All (Fits range cuts) (flat l.others.items);
}
