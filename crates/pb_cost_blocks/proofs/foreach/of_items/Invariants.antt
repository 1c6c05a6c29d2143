use Rattle.std.proofs.Common.{map, drop}
use Rattle.pb_core_language.specs.Plain.{plain_block, plain_stmt, block_of}
use Rattle.pb_cost_blocks.specs.Sums.{IsOnce}
use Rattle.pb_cost_blocks.proofs.foreach.of_items.Given as goal

abbrev pub invariant-loop-stmt : goal.invariant-loop-stmt
invariant-loop-stmt l = IsOnce l.asked l.labels l.once (block_of (map plain_stmt (drop l.stmt-index l.stmt-items))) (plain_block l.items).block
