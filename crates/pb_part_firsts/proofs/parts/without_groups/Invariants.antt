use Rattle.std.proofs.Common.{◌≡◌, ℕ, ℤ, ◌&&◌, not, List, drop}
use Rattle.std.specs.List.{All}
use Rattle.pb_affine.specs.declared.lin.Lin.{Lin}
use Rattle.pb_affine.specs.declared.range.NRange.{NRange}
use Rattle.pb_part_areas.specs.Areas.{have}
use Rattle.pb_part_areas.specs.Fits.{Fits}
use Rattle.pb_part_firsts.specs.Parts.{flat, AreAround}
use Rattle.pb_part_firsts.proofs.parts.without_groups.Given as goal

abbrev pub invariant-loop-group : goal.invariant-loop-group
invariant-loop-group l = record {
  rest : AreAround l.fn.reach.items → AreAround l.groups → (n : ℤ) (role : ℕ) (x : ℤ) →
      have (flat l.left.items) n role x && not (have (flat (drop l.group-index l.groups)) n role x) ≡ have (flat l.fn.reach.items) n role x && not (have (flat l.groups) n role x);
  around : AreAround l.fn.reach.items → AreAround l.left.items;
  ahead : AreAround l.groups → AreAround (drop l.group-index l.groups);
  coming : (range : NRange) (cuts : List Lin) → All (Fits range cuts) (flat l.groups) → All (Fits range cuts) (flat (drop l.group-index l.groups));
  fits : (range : NRange) (cuts : List Lin) → All (Fits range cuts) (flat l.fn.reach.items) → All (Fits range cuts) (flat l.groups) → All (Fits range cuts) (flat l.left.items);
}
