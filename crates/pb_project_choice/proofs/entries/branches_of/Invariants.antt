use Rattle.std.proofs.Common.{◌≡◌, true, List, None, drop}
use Rattle.std.specs.List.{All}
use Rattle.pb_affine.specs.declared.lin.Lin.{Lin}
use Rattle.pb_part_areas.specs.Fits.{Fits}
use Rattle.pb_core_language.specs.Cuts.{branches_cuts}
use Rattle.pb_core_language.specs.Sound.{Rows, are_branches}
use Rattle.pb_part_takers.specs.Loops.{ids_of, HeldFit}
use Rattle.pb_part_takers.specs.Pieces.{AreAmong}
use Rattle.pb_part_firsts.specs.Takers.{IsWhole}
use Rattle.pb_part_firsts.proofs.Steps.{trees_of}
use Rattle.pb_shape.specs.Places.{Scope}
use Rattle.pb_shape.specs.Loops.{Around}
use Rattle.pb_project_choice.specs.Found.{IsAround}
use Rattle.pb_project_choice.proofs.Firsts.{FirstSoFar}
use Rattle.pb_project_choice.proofs.entries.branches_of.Given as goal

abbrev pub invariant-loop-branch : goal.invariant-loop-branch
invariant-loop-branch l = record {
  sound : (rows : Rows) → are_branches rows (ids_of l.held) (trees_of l.branches) ≡ true → are_branches rows (ids_of l.held) (trees_of (drop l.branch-index l.branches)) ≡ true;
  among : (cuts : List Lin) → AreAmong (branches_cuts None (trees_of l.branches)) cuts → AreAmong (branches_cuts None (trees_of (drop l.branch-index l.branches))) cuts;
  first : (sc : Scope) (a : Around) (rows : Rows) (cuts : List Lin) → IsWhole sc.range sc.roles l.whole → IsAround sc a l.held → are_branches rows (ids_of l.held) (trees_of l.branches) ≡ true →
      AreAmong (branches_cuts None (trees_of l.branches)) cuts → All (Fits sc.range cuts) l.whole → HeldFit sc.range cuts l.held → FirstSoFar sc a cuts l.branches l.branch-index l.list.items;
}
