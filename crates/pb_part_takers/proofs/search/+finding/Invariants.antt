use Rattle.std.proofs.Common.{List, map, drop}
use Rattle.pb_part_areas.specs.declared.area.Area.{Area}
use Rattle.pb_core_language.specs.Plain.{plain_block, plain_stmt, block_of, branches_of}
use Rattle.pb_part_takers.specs.Pieces.{IsAdded, within_piece, across_piece}
use Rattle.pb_part_takers.proofs.search.+finding.Given as goal

abbrev pub invariant-within-loop-stmt : goal.invariant-within-loop-stmt
invariant-within-loop-stmt l = (new : List Area) →
    IsAdded l.whole l.held (within_piece l.held l.number (block_of (map plain_stmt (drop l.stmt-index l.stmt-items)))) l.out.items new →
    IsAdded l.whole l.held (within_piece l.held l.number (block_of (map plain_stmt l.stmt-items))) l.initial.out.items new

abbrev pub invariant-across-loop-branch : goal.invariant-across-loop-branch
invariant-across-loop-branch l = (new : List Area) →
    IsAdded l.whole l.held (across_piece l.held l.number (branches_of (map plain_block (drop l.branch-index l.branches)))) l.out.items new →
    IsAdded l.whole l.held (across_piece l.held l.number (branches_of (map plain_block l.branches))) l.initial.out.items new
