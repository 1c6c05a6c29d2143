use Rattle.std.proofs.Common.{◌≡◌, ◌++◌, map, drop}
use Rattle.pb_syntax.specs.Plain.{plain_statement, plain_block}
use Rattle.pb_syntax.specs.Tree.{statements_of, branches_of}
use Rattle.pb_core_language.specs.Meaning.{kernels_in, kernels_among}
use Rattle.pb_core_file_rules.proofs.kernels.+kernels.Given as goal

abbrev pub invariant-add_kernels_in-loop-statement : goal.invariant-add_kernels_in-loop-statement
invariant-add_kernels_in-loop-statement l =
    l.out.items ++ kernels_in (statements_of (map plain_statement (drop l.statement-index l.statement-items))) ≡ l.fn.out.items ++ kernels_in (plain_block l.block).list

abbrev pub invariant-add_kernels_among-loop-branch : goal.invariant-add_kernels_among-loop-branch
invariant-add_kernels_among-loop-branch l =
    l.out.items ++ kernels_among (branches_of (map plain_block (drop l.branch-index l.branches))) ≡ l.fn.out.items ++ kernels_among (branches_of (map plain_block l.branches))
