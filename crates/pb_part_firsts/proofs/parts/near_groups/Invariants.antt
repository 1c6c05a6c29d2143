use Rattle.std.proofs.Common.{◌≡◌, ℕ, ℤ, ◌||◌, ◌&&◌, List, drop}
use Rattle.std.specs.List.{All}
use Rattle.pb_affine.specs.declared.lin.Lin.{Lin}
use Rattle.pb_affine.specs.declared.range.NRange.{NRange}
use Rattle.pb_part_areas.specs.Areas.{has, have}
use Rattle.pb_part_areas.specs.Fits.{Fits}
use Rattle.pb_part_firsts.specs.Parts.{flat, AreAround}
use Rattle.pb_part_firsts.proofs.parts.near_groups.Given as goal

abbrev pub invariant-loop-group : goal.invariant-loop-group
invariant-loop-group l = record {
  is : AreAround l.groups → (n : ℤ) (role : ℕ) (x : ℤ) →
      (have l.out.items n role x || have (flat (drop l.group-index l.groups)) n role x) && has l.to n role x ≡ have (flat l.groups) n role x && has l.to n role x;
  ahead : AreAround l.groups → AreAround (drop l.group-index l.groups);
  coming : (range : NRange) (cuts : List Lin) → All (Fits range cuts) (flat l.groups) → All (Fits range cuts) (flat (drop l.group-index l.groups));
  fits : (range : NRange) (cuts : List Lin) → All (Fits range cuts) (flat l.groups) → All (Fits range cuts) l.out.items;
}
