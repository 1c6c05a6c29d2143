use Rattle.std.proofs.Common.{◌≡◌, ◌++◌, map, drop}
use Rattle.pb_do_syntax.specs.Calls.{calls_of, branches_of}
use Rattle.pb_do_syntax.specs.Plain.{plain_statement, plain_block}
use Rattle.pb_do_faults.specs.CallSites.{calls_in, calls_among}
use Rattle.pb_do_faults.proofs.collected.+collect.Given as goal

abbrev pub invariant-add_calls_in-loop-statement : goal.invariant-add_calls_in-loop-statement
invariant-add_calls_in-loop-statement l =
    l.out.items ++ calls_in l.names (calls_of (map plain_statement (drop l.statement-index l.statement-items))) ≡ l.fn.out.items ++ calls_in l.names (plain_block l.block).list

abbrev pub invariant-add_calls_among-loop-branch : goal.invariant-add_calls_among-loop-branch
invariant-add_calls_among-loop-branch l =
    l.out.items ++ calls_among l.names (branches_of (map plain_block (drop l.branch-index l.branches))) ≡ l.fn.out.items ++ calls_among l.names (branches_of (map plain_block l.branches))
