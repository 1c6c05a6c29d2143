use Rattle.std.proofs.Common.{◌≡◌, ◌++◌, map, drop}
use Rattle.pb_strips_syntax.specs.Strips.{strips_of, branches_of}
use Rattle.pb_strips_syntax.specs.Plain.{plain_block, plain_statement}
use Rattle.pb_strips_faults.specs.Spelled.{spelled_in, spelled_among}
use Rattle.pb_strips_faults.proofs.names.+spelling.Given as goal

abbrev pub invariant-add_names_in-loop-statement : goal.invariant-add_names_in-loop-statement
invariant-add_names_in-loop-statement l =
    l.out.items ++ spelled_in (strips_of (map plain_statement (drop l.statement-index l.statement-items))) ≡ l.fn.out.items ++ spelled_in (plain_block l.block).list

abbrev pub invariant-add_names_among-loop-branch : goal.invariant-add_names_among-loop-branch
invariant-add_names_among-loop-branch l =
    l.out.items ++ spelled_among (branches_of (map plain_block (drop l.branch-index l.branches))) ≡ l.fn.out.items ++ spelled_among (branches_of (map plain_block l.branches))
