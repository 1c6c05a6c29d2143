use Rattle.std.proofs.Common.{◌≡◌, map, drop}
use Rattle.pb_do_syntax.specs.Calls.{calls_of, branches_of}
use Rattle.pb_do_syntax.specs.Names.{role_names}
use Rattle.pb_do_syntax.specs.Plain.{plain_statement, plain_block}
use Rattle.pb_do_faults.specs.Strangers.{outsiders_in, outsiders_among}
use Rattle.pb_do_faults.specs.Found.{first}
use Rattle.pb_do_faults.proofs.outsiders.+outsiders.Given as goal

abbrev pub invariant-first_outsider_in-loop-statement : goal.invariant-first_outsider_in-loop-statement
invariant-first_outsider_in-loop-statement l =
    first (outsiders_in (role_names l.roles) (calls_of (map plain_statement (drop l.statement-index l.statement-items)))) ≡ first (outsiders_in (role_names l.roles) (plain_block l.block).list)

abbrev pub invariant-first_outsider_among-loop-branch : goal.invariant-first_outsider_among-loop-branch
invariant-first_outsider_among-loop-branch l =
    first (outsiders_among (role_names l.roles) (branches_of (map plain_block (drop l.branch-index l.branches)))) ≡ first (outsiders_among (role_names l.roles) (branches_of (map plain_block l.branches)))
