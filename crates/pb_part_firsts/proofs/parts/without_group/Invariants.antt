use Rattle.std.proofs.Common.{◌≡◌, ℕ, ℤ, ◌||◌, ◌&&◌, not, List}
use Rattle.std.specs.List.{All}
use Rattle.pb_affine.specs.declared.lin.Lin.{Lin}
use Rattle.pb_affine.specs.declared.range.NRange.{NRange}
use Rattle.pb_part_areas.specs.Areas.{have}
use Rattle.pb_part_areas.specs.Fits.{Fits}
use Rattle.pb_part_firsts.specs.Parts.{flat, IsAround, AreAround}
use Rattle.pb_part_firsts.proofs.parts.without_group.Given as goal

abbrev pub invariant-loop-part : goal.invariant-loop-part
invariant-loop-part l = record {
  rest : AreAround l.fn.reach.items → IsAround l.group → (n : ℤ) (role : ℕ) (x : ℤ) →
      have (flat l.left.items) n role x || (have (flat l.part-iterator.rest.items) n role x && not (have l.group.areas.items n role x)) ≡ have (flat l.fn.reach.items) n role x && not (have l.group.areas.items n role x);
  ahead : AreAround l.fn.reach.items → AreAround l.part-iterator.rest.items;
  around : AreAround l.fn.reach.items → AreAround l.left.items;
  coming : (range : NRange) (cuts : List Lin) → All (Fits range cuts) (flat l.fn.reach.items) → All (Fits range cuts) (flat l.part-iterator.rest.items);
  fits : (range : NRange) (cuts : List Lin) → All (Fits range cuts) (flat l.fn.reach.items) → All (Fits range cuts) l.group.areas.items → All (Fits range cuts) (flat l.left.items);
}
