use Rattle.std.proofs.Common.{◌≡◌, ℕ, ℤ, List, ◌++◌, ◌∷◌, drop}
use Rattle.std.specs.List.{All}
use Rattle.pb_affine.specs.declared.lin.Lin.{Lin}
use Rattle.pb_affine.specs.declared.range.NRange.{NRange}
use Rattle.pb_part_areas.specs.Areas.{have}
use Rattle.pb_part_areas.specs.Fits.{Fits}
use Rattle.pb_part_takers.specs.Loops.{ids_of, held_of, HeldFit}
use Rattle.pb_part_takers.proofs.held.with_loop.Given as goal

abbrev pub invariant-loop-h : goal.invariant-loop-h
invariant-loop-h l = record {
  ids : ids_of l.list.items ++ ids_of (drop l.h-index l.held) ≡ l.id ∷ ids_of l.held;
  held : (n : ℤ) (role : ℕ) (x : ℤ) → held_of l.list.items n role x ++ held_of (drop l.h-index l.held) n role x ≡ have l.fn.areas.items n role x ∷ held_of l.held n role x;
  fits : (range : NRange) (cuts : List Lin) → All (Fits range cuts) l.fn.areas.items → HeldFit range cuts l.held → HeldFit range cuts l.list.items;
}
