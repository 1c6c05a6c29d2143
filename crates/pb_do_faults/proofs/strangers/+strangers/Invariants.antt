use Rattle.std.proofs.Common.{◌≡◌, map, drop}
use Rattle.pb_do_syntax.specs.Calls.{calls_of, branches_of}
use Rattle.pb_do_syntax.specs.Plain.{plain_statement, plain_block}
use Rattle.pb_do_faults.specs.Strangers.{strangers_in, strangers_among}
use Rattle.pb_do_faults.specs.Found.{first, names_of}
use Rattle.pb_do_faults.proofs.strangers.+strangers.Given as goal

abbrev pub invariant-first_stranger_in-loop-statement : goal.invariant-first_stranger_in-loop-statement
invariant-first_stranger_in-loop-statement l =
    first (strangers_in l.params (names_of l.loops) (calls_of (map plain_statement (drop l.statement-index l.statement-items)))) ≡ first (strangers_in l.params (names_of l.loops) (plain_block l.block).list)

abbrev pub invariant-first_stranger_among-loop-branch : goal.invariant-first_stranger_among-loop-branch
invariant-first_stranger_among-loop-branch l =
    first (strangers_among l.params (names_of l.loops) (branches_of (map plain_block (drop l.branch-index l.branches)))) ≡ first (strangers_among l.params (names_of l.loops) (branches_of (map plain_block l.branches)))
