use Rattle.std.proofs.Common.{List, map, drop}
use Rattle.pb_part_areas.specs.declared.area.Area.{Area}
use Rattle.pb_core_language.specs.Plain.{plain_block, plain_stmt, block_of, branches_of}
use Rattle.pb_part_takers.specs.Pieces.{IsAdded, block_piece, branches_piece}
use Rattle.pb_part_takers.proofs.walk.+taking.Given as goal

abbrev pub invariant-gather_in-loop-stmt : goal.invariant-gather_in-loop-stmt
invariant-gather_in-loop-stmt l = (new : List Area) →
    IsAdded l.whole l.held (block_piece l.held (block_of (map plain_stmt (drop l.stmt-index l.stmt-items)))) l.out.items new →
    IsAdded l.whole l.held (block_piece l.held (block_of (map plain_stmt l.stmt-items))) l.initial.out.items new

abbrev pub invariant-takers_among-loop-branch : goal.invariant-takers_among-loop-branch
invariant-takers_among-loop-branch l = (new : List Area) →
    IsAdded l.whole l.held (branches_piece l.held (branches_of (map plain_block (drop l.branch-index l.branches)))) l.out.items new →
    IsAdded l.whole l.held (branches_piece l.held (branches_of (map plain_block l.branches))) l.initial.out.items new
