use Rattle.std.proofs.Common.{◌≡◌, true, false, List, None, drop}
use Rattle.std.specs.List.{All}
use Rattle.pb_affine.specs.declared.lin.Lin.{Lin}
use Rattle.pb_affine.specs.declared.range.NRange.{NRange}
use Rattle.pb_core_language.specs.declared.protocol.CoreRole.{CoreRole}
use Rattle.pb_core_language.specs.Cuts.{block_cuts, branches_cuts}
use Rattle.pb_core_language.specs.Sound.{Rows, is_block, are_branches}
use Rattle.pb_part_areas.specs.declared.area.Area.{Area}
use Rattle.pb_part_areas.specs.Fits.{Fits}
use Rattle.pb_part_takers.specs.Loops.{ids_of, HeldFit}
use Rattle.pb_part_takers.specs.Pieces.{AreAmong}
use Rattle.pb_part_firsts.specs.declared.firsts.Entry.{Entry}
use Rattle.pb_part_firsts.specs.Takers.{IsWhole}
use Rattle.pb_part_firsts.specs.Fitting.{AllFit}
use Rattle.pb_part_firsts.specs.Answers.{Answers, within_of, across_of}
use Rattle.pb_part_firsts.proofs.Steps.{tree_of, trees_of}
use Rattle.pb_part_firsts.proofs.search.+finding.Given as goal

abbrev pub invariant-within-loop-stmt : goal.invariant-within-loop-stmt
invariant-within-loop-stmt l = record {
  sound : (rows : Rows) → is_block rows false (ids_of l.held) (tree_of l.stmt-items) ≡ true → is_block rows false (ids_of l.held) (tree_of (drop l.stmt-index l.stmt-items)) ≡ true;
  gives : (range : NRange) (roles : List CoreRole) (rows : Rows) → IsWhole range roles l.whole → is_block rows false (ids_of l.held) (tree_of l.stmt-items) ≡ true → (all : List Area) (new : List Entry) →
      Answers range roles l.found.passed.items all l.found.entries.items new (within_of roles l.held l.number (tree_of (drop l.stmt-index l.stmt-items))) →
      Answers range roles l.initial.found.passed.items all l.initial.found.entries.items new (within_of roles l.held l.number (tree_of l.stmt-items));
  fits : (range : NRange) (cuts : List Lin) (rows : Rows) → is_block rows false (ids_of l.held) (tree_of l.stmt-items) ≡ true → AreAmong (block_cuts None (tree_of l.stmt-items)) cuts →
      All (Fits range cuts) l.whole → HeldFit range cuts l.held → AllFit range cuts l.initial.found.passed.items l.initial.found.entries.items → AllFit range cuts l.found.passed.items l.found.entries.items;
  among : (cuts : List Lin) → AreAmong (block_cuts None (tree_of l.stmt-items)) cuts → AreAmong (block_cuts None (tree_of (drop l.stmt-index l.stmt-items))) cuts;
}

abbrev pub invariant-across-loop-branch : goal.invariant-across-loop-branch
invariant-across-loop-branch l = record {
  sound : (rows : Rows) → are_branches rows (ids_of l.held) (trees_of l.branches) ≡ true → are_branches rows (ids_of l.held) (trees_of (drop l.branch-index l.branches)) ≡ true;
  gives : (range : NRange) (roles : List CoreRole) (rows : Rows) → IsWhole range roles l.whole → are_branches rows (ids_of l.held) (trees_of l.branches) ≡ true → (all : List Area) (new : List Entry) →
      Answers range roles l.found.passed.items all l.found.entries.items new (across_of roles l.held l.number (trees_of (drop l.branch-index l.branches))) →
      Answers range roles l.initial.found.passed.items all l.initial.found.entries.items new (across_of roles l.held l.number (trees_of l.branches));
  fits : (range : NRange) (cuts : List Lin) (rows : Rows) → are_branches rows (ids_of l.held) (trees_of l.branches) ≡ true → AreAmong (branches_cuts None (trees_of l.branches)) cuts →
      All (Fits range cuts) l.whole → HeldFit range cuts l.held → AllFit range cuts l.initial.found.passed.items l.initial.found.entries.items → AllFit range cuts l.found.passed.items l.found.entries.items;
  among : (cuts : List Lin) → AreAmong (branches_cuts None (trees_of l.branches)) cuts → AreAmong (branches_cuts None (trees_of (drop l.branch-index l.branches))) cuts;
}
