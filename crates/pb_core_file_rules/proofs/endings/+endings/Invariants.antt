use Rattle.std.proofs.Common.{◌≡◌, ◌&&◌, ◌||◌, map, drop}
use Rattle.pb_syntax.specs.declared.tree.Block.{out-Block}
use Rattle.pb_syntax.specs.Plain.{plain_statement, plain_block}
use Rattle.pb_syntax.specs.Tree.{statements_of, branches_of}
use Rattle.pb_core_language.specs.FileRules.{all_can_end, some_can_end, all_loops_can_end, branches_loops_can_end, endless_in, endless_among}
use Rattle.pb_core_file_rules.specs.Lowering.{first, or_first}
use Rattle.pb_core_file_rules.proofs.endings.+endings.Given as goal

abbrev pub invariant-ending_in-loop-i : goal.invariant-ending_in-loop-i
invariant-ending_in-loop-i l = record {
  can : (l.ending.can_end && all_can_end (statements_of (map plain_statement (drop l.i (out-Block l.block).list.items)))) ≡ all_can_end (plain_block l.block).list;
  loops : (l.ending.loops_can_end && all_loops_can_end (statements_of (map plain_statement (drop l.i (out-Block l.block).list.items)))) ≡ all_loops_can_end (plain_block l.block).list;
  first : or_first l.ending.endless (first (endless_in (statements_of (map plain_statement (drop l.i (out-Block l.block).list.items))))) ≡ first (endless_in (plain_block l.block).list);
}

abbrev pub invariant-ending_among-loop-branch : goal.invariant-ending_among-loop-branch
invariant-ending_among-loop-branch l = record {
  can : (l.ending.can_end || some_can_end (branches_of (map plain_block (drop l.branch-index l.branches)))) ≡ some_can_end (branches_of (map plain_block l.branches));
  loops : (l.ending.loops_can_end && branches_loops_can_end (branches_of (map plain_block (drop l.branch-index l.branches)))) ≡ branches_loops_can_end (branches_of (map plain_block l.branches));
  first : or_first l.ending.endless (first (endless_among (branches_of (map plain_block (drop l.branch-index l.branches))))) ≡ first (endless_among (branches_of (map plain_block l.branches)));
}
