use Rattle.std.proofs.Common.{◌≡◌, ℕ, ℤ, ◌||◌, List, drop}
use Rattle.std.specs.List.{All}
use Rattle.pb_affine.specs.declared.lin.Lin.{Lin}
use Rattle.pb_affine.specs.declared.range.NRange.{NRange}
use Rattle.pb_part_areas.specs.Areas.{have}
use Rattle.pb_part_areas.specs.Fits.{Fits}
use Rattle.pb_part_firsts.specs.Parts.{flat, AreAround}
use Rattle.pb_part_firsts.proofs.parts.put_all.Given as goal

abbrev pub invariant-loop-a : goal.invariant-loop-a
invariant-loop-a l = record {
  is : (n : ℤ) (role : ℕ) (x : ℤ) → have (flat l.parts.items) n role x || have (drop l.a-index l.list) n role x ≡ have (flat l.initial.parts.items) n role x || have l.list n role x;
  around : AreAround l.initial.parts.items → AreAround l.parts.items;
  fits : (range : NRange) (cuts : List Lin) → All (Fits range cuts) (flat l.initial.parts.items) → All (Fits range cuts) l.list → All (Fits range cuts) (flat l.parts.items);
}
