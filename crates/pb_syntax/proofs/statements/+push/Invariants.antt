use Rattle.std.proofs.Common.{◌≡◌, drop, map}
use Rattle.pb_syntax.specs.Plain.{plain_statement, plain_block}
use Rattle.pb_syntax.specs.Tree.{statements_of, branches_of}
use Rattle.pb_syntax.specs.Printed.{statements_tokens}
use Rattle.pb_syntax.proofs.Branches.{branches_from}
use Rattle.pb_syntax.proofs.statements.+push.Given as goal

abbrev pub invariant-push_statements-loop-statement : goal.invariant-push_statements-loop-statement
invariant-push_statements-loop-statement l = record {
  so_far : statements_tokens (statements_of (map plain_statement (drop l.statement-index l.list))) l.out.items ≡ statements_tokens (statements_of (map plain_statement l.list)) l.initial.out.items;
}

abbrev pub invariant-push_branches-loop-i : goal.invariant-push_branches-loop-i
invariant-push_branches-loop-i l = record {
  so_far : branches_from l.i (branches_of (map plain_block (drop l.i l.branches))) l.out.items ≡ branches_from 0 (branches_of (map plain_block l.branches)) l.initial.out.items;
}
