use Rattle.std.proofs.Common.{◌≡◌, ◌++◌, map, drop}
use Rattle.pb_core_language.specs.Names.{roles_visits}
use Rattle.pb_core_language.specs.FileRules.{role_names}
use Rattle.pb_core_file_rules.specs.Visiting.{met}
use Rattle.pb_core_file_rules.proofs.walk.add_roles.Given as goal

abbrev pub invariant-loop-role : goal.invariant-loop-role
invariant-loop-role l =
    l.out.items ++ map (met (role_names l.declared.roles.now)) (roles_visits l.declared.constant.now (drop l.role-index l.roles))
    ≡ l.fn.out.items ++ map (met (role_names l.declared.roles.now)) (roles_visits l.declared.constant.now l.roles)
