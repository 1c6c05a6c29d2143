use Rattle.std.proofs.Common.{◌≡◌, true, false, List, None, drop}
use Rattle.pb_affine.specs.declared.range.NRange.{NRange}
use Rattle.pb_core_language.specs.declared.protocol.CoreRole.{CoreRole}
use Rattle.pb_core_language.specs.Sound.{Rows, is_block, are_branches}
use Rattle.pb_part_areas.specs.declared.area.Area.{Area}
use Rattle.pb_part_firsts.specs.declared.firsts.Entry.{Entry}
use Rattle.pb_part_takers.specs.Loops.{ids_of, HeldFit}
use Rattle.pb_part_takers.specs.Pieces.{AreAmong}
use Rattle.std.specs.List.{All}
use Rattle.pb_affine.specs.declared.lin.Lin.{Lin}
use Rattle.pb_part_areas.specs.Fits.{Fits}
use Rattle.pb_core_language.specs.Cuts.{block_cuts, branches_cuts}
use Rattle.pb_part_firsts.specs.Fitting.{AllFit, EntriesFit}
use Rattle.pb_part_firsts.specs.Takers.{IsWhole}
use Rattle.pb_part_firsts.specs.Firsts.{Gives, first_in, are_small}
use Rattle.pb_part_firsts.specs.Parts.{flat, AreAround}
use Rattle.pb_part_firsts.specs.Stopping.{AmongGives, first_among}
use Rattle.pb_part_firsts.proofs.Steps.{tree_of, trees_of, first_behind}
use Rattle.pb_part_firsts.proofs.walk.+firsts.Given as goal

abbrev pub invariant-firsts_of-loop-stmt : goal.invariant-firsts_of-loop-stmt
invariant-firsts_of-loop-stmt l = record {
  sound : (rows : Rows) → is_block rows false (ids_of l.held) (tree_of l.stmt-items) ≡ true → is_block rows false (ids_of l.held) (tree_of (drop l.stmt-index l.stmt-items)) ≡ true;
  gives : (range : NRange) (roles : List CoreRole) (rows : Rows) → IsWhole range roles l.whole → is_block rows false (ids_of l.held) (tree_of l.stmt-items) ≡ true → AreAround l.fn.reach.items → (left : List Area) (new : List Entry) →
      Gives range roles (flat l.left.items) left l.out.items new (first_behind roles l.held l.stops.items (drop l.stmt-index l.stmt-items)) →
      Gives range roles (flat l.fn.reach.items) left l.initial.out.items new (first_in roles l.held (tree_of l.stmt-items));
  fits : (range : NRange) (cuts : List Lin) (rows : Rows) → is_block rows false (ids_of l.held) (tree_of l.stmt-items) ≡ true → AreAmong (block_cuts None (tree_of l.stmt-items)) cuts →
      All (Fits range cuts) l.whole → HeldFit range cuts l.held → All (Fits range cuts) (flat l.fn.reach.items) → EntriesFit range cuts l.initial.out.items →
      EntriesFit range cuts l.stops.items × AllFit range cuts (flat l.left.items) l.out.items;
  around : AreAround l.fn.reach.items → AreAround l.left.items;
  among : (cuts : List Lin) → AreAmong (block_cuts None (tree_of l.stmt-items)) cuts → AreAmong (block_cuts None (tree_of (drop l.stmt-index l.stmt-items))) cuts;
  small : (rows : Rows) → is_block rows false (ids_of l.held) (tree_of l.stmt-items) ≡ true → are_small l.initial.out.items ≡ true → (are_small l.stops.items ≡ true) × (are_small l.out.items ≡ true);
}

abbrev pub invariant-firsts_among-loop-branch : goal.invariant-firsts_among-loop-branch
invariant-firsts_among-loop-branch l = record {
  sound : (rows : Rows) → are_branches rows (ids_of l.held) (trees_of l.branches) ≡ true → are_branches rows (ids_of l.held) (trees_of (drop l.branch-index l.branches)) ≡ true;
  gives : (range : NRange) (roles : List CoreRole) (rows : Rows) → IsWhole range roles l.whole → are_branches rows (ids_of l.held) (trees_of l.branches) ≡ true → AreAround l.reach → (left : List Area) (new : List Entry) →
      AmongGives range roles (flat l.reach) (flat l.passed.items) left l.out.items new (first_among roles l.held (trees_of (drop l.branch-index l.branches))) →
      AmongGives range roles (flat l.reach) (flat l.initial.passed.items) left l.initial.out.items new (first_among roles l.held (trees_of l.branches));
  fits : (range : NRange) (cuts : List Lin) (rows : Rows) → are_branches rows (ids_of l.held) (trees_of l.branches) ≡ true → AreAmong (branches_cuts None (trees_of l.branches)) cuts →
      All (Fits range cuts) l.whole → HeldFit range cuts l.held → All (Fits range cuts) (flat l.reach) → EntriesFit range cuts l.initial.out.items → AllFit range cuts (flat l.passed.items) l.out.items;
  around : AreAround l.reach → AreAround l.passed.items;
  among : (cuts : List Lin) → AreAmong (branches_cuts None (trees_of l.branches)) cuts → AreAmong (branches_cuts None (trees_of (drop l.branch-index l.branches))) cuts;
  small : (rows : Rows) → are_branches rows (ids_of l.held) (trees_of l.branches) ≡ true → are_small l.initial.out.items ≡ true → are_small l.out.items ≡ true;
}
