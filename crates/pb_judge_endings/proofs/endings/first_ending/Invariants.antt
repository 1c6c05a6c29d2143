use Rattle.std.proofs.Common.{◌≡◌, ◌+◌, map, drop}
use Rattle.pb_core_language.specs.Plain.{plain_block, branches_of}
use Rattle.pb_judge_endings.specs.Endings.{ending, count}
use Rattle.pb_judge_endings.proofs.endings.first_ending.Given as goal

abbrev pub invariant-loop-number : goal.invariant-loop-number
invariant-loop-number l = record {
  ending : l.number + ending (branches_of (map plain_block (drop l.number l.branches))) ≡ ending (branches_of (map plain_block l.branches));
  count : l.number + count (branches_of (map plain_block (drop l.number l.branches))) ≡ count (branches_of (map plain_block l.branches));
}
