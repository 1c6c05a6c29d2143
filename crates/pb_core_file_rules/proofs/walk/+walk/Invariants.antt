use Rattle.std.proofs.Common.{◌≡◌, ◌++◌, map, drop}
use Rattle.pb_syntax.specs.Plain.{plain_statement, plain_block}
use Rattle.pb_syntax.specs.Tree.{statements_of, branches_of}
use Rattle.pb_core_language.specs.Names.{block_visits, branches_visits}
use Rattle.pb_core_language.specs.FileRules.{role_names}
use Rattle.pb_core_file_rules.specs.Visiting.{met, scope_of}
use Rattle.pb_core_file_rules.proofs.walk.+walk.Given as goal

abbrev pub invariant-add_visits_in-loop-statement : goal.invariant-add_visits_in-loop-statement
invariant-add_visits_in-loop-statement l =
    l.out.items ++ map (met (role_names l.declared.roles.now)) (block_visits l.declared.constant.now (scope_of l.scope) (statements_of (map plain_statement (drop l.statement-index l.statement-items))))
    ≡ l.fn.out.items ++ map (met (role_names l.declared.roles.now)) (block_visits l.declared.constant.now (scope_of l.scope) (plain_block l.block).list)

abbrev pub invariant-add_visits_among-loop-branch : goal.invariant-add_visits_among-loop-branch
invariant-add_visits_among-loop-branch l =
    l.out.items ++ map (met (role_names l.declared.roles.now)) (branches_visits l.declared.constant.now (scope_of l.scope) (branches_of (map plain_block (drop l.branch-index l.branches))))
    ≡ l.fn.out.items ++ map (met (role_names l.declared.roles.now)) (branches_visits l.declared.constant.now (scope_of l.scope) (branches_of (map plain_block l.branches)))
