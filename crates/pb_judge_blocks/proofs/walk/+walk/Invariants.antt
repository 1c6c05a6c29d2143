use Rattle.std.proofs.Common.{◌≡◌, ◌≤◌, ◌-◌, length, map, drop}
use Rattle.pb_affine.specs.Values.{count_from}
use Rattle.pb_core_language.specs.Plain.{plain_block, plain_stmt, block_of}
use Rattle.pb_judge_lists.specs.Places.{left_of}
use Rattle.pb_judge_blocks.specs.Steps.{BlockGoesOn, TurnsGoOn, RoundWalked}
use Rattle.pb_judge_blocks.proofs.walk.+walk.Given as goal

abbrev pub invariant-block-loop-stmt : goal.invariant-block-loop-stmt
invariant-block-loop-stmt l = record {
  walked : BlockGoesOn l.site l.i (plain_block l.block).block (left_of l.fn.lists) (block_of (map plain_stmt (drop l.stmt-index l.stmt-items))) (left_of l.lists);
  log : l.lists.log ≡ l.fn.lists.log;
}

abbrev pub invariant-turns-turns : goal.invariant-turns-turns
invariant-turns-turns l = record {
  walked : TurnsGoOn l.site (count_from l.many l.first) (plain_block l.items).block (left_of l.fn.lists) (count_from l.left l.turn) (left_of l.lists);
  log : l.lists.log ≡ l.fn.lists.log;
}

abbrev pub decreases-turns-turns : goal.decreases-turns-turns
decreases-turns-turns l = l.left

abbrev pub invariant-rounds-rounds : goal.invariant-rounds-rounds
invariant-rounds-rounds l = record {
  walked : RoundWalked l.site l.i l.id (plain_block l.body).block (left_of l.fn.lists) l.used l.flow (left_of l.lists);
  within : l.used ≤ length l.fn.lists.log;
  log : l.lists.log ≡ l.fn.lists.log;
}

abbrev pub decreases-rounds-rounds : goal.decreases-rounds-rounds
decreases-rounds-rounds l = length l.fn.lists.log - l.used
