use Rattle.std.proofs.Common.{◌≡◌, map, drop}
use Rattle.pb_syntax.specs.declared.tree.Block.{out-Block}
use Rattle.pb_syntax.specs.Plain.{plain_statement, plain_block}
use Rattle.pb_syntax.specs.Tree.{statements_of, branches_of}
use Rattle.pb_core_language.specs.FileRules.{astray_in, astray_among}
use Rattle.pb_core_file_rules.specs.Lowering.{first, names_of}
use Rattle.pb_core_file_rules.proofs.continues.+continues.Given as goal

abbrev pub invariant-first_astray_in-loop-i : goal.invariant-first_astray_in-loop-i
invariant-first_astray_in-loop-i l =
    first (astray_in (names_of l.loops) (statements_of (map plain_statement (drop l.i (out-Block l.block).list.items)))) ≡ first (astray_in (names_of l.loops) (plain_block l.block).list)

abbrev pub invariant-first_astray_among-loop-branch : goal.invariant-first_astray_among-loop-branch
invariant-first_astray_among-loop-branch l =
    first (astray_among (names_of l.loops) (branches_of (map plain_block (drop l.branch-index l.branches)))) ≡ first (astray_among (names_of l.loops) (branches_of (map plain_block l.branches)))
