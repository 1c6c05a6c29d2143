use Rattle.std.proofs.Common.{◌≡◌, ◌&&◌, ◌||◌, map, drop}
use Rattle.pb_core_language.specs.declared.tree.CoreBlock.{out-CoreBlock}
use Rattle.pb_core_language.specs.Plain.{plain_stmt, plain_block, block_of, branches_of}
use Rattle.pb_judge_endings.specs.Endings.{all_end, some_ends}
use Rattle.pb_judge_endings.proofs.endings.+endings.Given as goal

abbrev pub invariant-can_end-loop-stmt : goal.invariant-can_end-loop-stmt
invariant-can_end-loop-stmt l = (l.all && all_end (block_of (map plain_stmt (drop l.stmt-index (out-CoreBlock l.block).list.items)))) ≡ all_end (plain_block l.block).block

abbrev pub invariant-some_can_end-loop-branch : goal.invariant-some_can_end-loop-branch
invariant-some_can_end-loop-branch l = (l.some || some_ends (branches_of (map plain_block (drop l.branch-index l.branches)))) ≡ some_ends (branches_of (map plain_block l.branches))
