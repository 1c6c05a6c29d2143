use Rattle.std.proofs.Common.{◌≡◌, ◌++◌, map, drop}
use Rattle.pb_syntax.specs.Plain.{plain_statement, plain_block}
use Rattle.pb_syntax.specs.Tree.{statements_of, branches_of}
use Rattle.pb_core_language.specs.FileRules.{labels_in, labels_among}
use Rattle.pb_core_file_rules.specs.Tables.{labelled_of}
use Rattle.pb_core_file_rules.proofs.labels.+labels.Given as goal

abbrev pub invariant-add_labels_in-loop-statement : goal.invariant-add_labels_in-loop-statement
invariant-add_labels_in-loop-statement l =
    map labelled_of l.out.items ++ labels_in (statements_of (map plain_statement (drop l.statement-index l.statement-items))) ≡ map labelled_of l.fn.out.items ++ labels_in (plain_block l.block).list

abbrev pub invariant-add_labels_among-loop-branch : goal.invariant-add_labels_among-loop-branch
invariant-add_labels_among-loop-branch l =
    map labelled_of l.out.items ++ labels_among (branches_of (map plain_block (drop l.branch-index l.branches))) ≡ map labelled_of l.fn.out.items ++ labels_among (branches_of (map plain_block l.branches))
