use Rattle.std.proofs.Common.{◌≡◌, map, drop}
use Rattle.pb_core_language.specs.Plain.{plain_block, plain_stmt, block_of, branches_of}
use Rattle.pb_cost.specs.Costs.{first_loop, first_among}
use Rattle.pb_cost.proofs.loops.+block.Given as goal

abbrev pub invariant-first_loop-loop-stmt : goal.invariant-first_loop-loop-stmt
invariant-first_loop-loop-stmt l = first_loop (block_of (map plain_stmt (drop l.stmt-index l.stmt-items))) ≡ first_loop (plain_block l.block).block

abbrev pub invariant-first_among-loop-block : goal.invariant-first_among-loop-block
invariant-first_among-loop-block l = first_among (branches_of (map plain_block (drop l.block-index l.blocks))) ≡ first_among (branches_of (map plain_block l.blocks))
