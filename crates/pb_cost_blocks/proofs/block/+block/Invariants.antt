use Rattle.std.proofs.Common.{map, drop}
use Rattle.pb_core_language.specs.Plain.{plain_block, plain_stmt, block_of, branches_of}
use Rattle.pb_cost_blocks.specs.Sums.{IsSum, IsBest}
use Rattle.pb_cost_blocks.proofs.block.+block.Given as goal

abbrev pub invariant-of_block-loop-stmt : goal.invariant-of_block-loop-stmt
invariant-of_block-loop-stmt l = IsSum l.asked l.labels l.running (block_of (map plain_stmt (drop l.stmt-index l.stmt-items))) (plain_block l.block).block

abbrev pub invariant-of_branches-loop-branch : goal.invariant-of_branches-loop-branch
invariant-of_branches-loop-branch l = IsBest l.asked l.labels l.best (branches_of (map plain_block (drop l.branch-index l.others))) (branches_of (map plain_block l.branches))
