use Rattle.std.proofs.Common.{◌+◌, map, drop, refl}
use Rattle.pb_core_language.specs.FileRules.{role_names}
use Rattle.pb_core_language.specs.Names.{role_visits, roles_visits}
use Rattle.pb_core_file_rules.specs.Visiting.{met}
use Rattle.pb_core_file_rules.proofs.Loops.{adds, added}
use Rattle.pb_core_file_rules.proofs.Mets.{both}
use Rattle.pb_core_file_rules.proofs.walk.add_roles.Goals as goal

pub loop-role-preserved : goal.loop-role-preserved
loop-role-preserved c =
    let roles = role_names c.args.declared.now.roles.now in
    let constant = c.args.declared.now.constant.now in
    adds (λ rs. map (met roles) (roles_visits constant rs)) c.args.roles.now c.loop-role.role-index c.role-item.result (map (met roles) (role_visits constant c.role-item.result)) c.loop-role.out.items c.add_role.new.out.items _ c.loop-role-test.true c.role-item.is (both roles (role_visits constant c.role-item.result) (roles_visits constant (drop (c.loop-role.role-index + 1) c.args.roles.now))) c.in_ok-add_role.ensures c.loop-role.invariant

pub returns : goal.returns
returns c =
    let roles = role_names c.args.declared.now.roles.now in
    added (λ rs. map (met roles) (roles_visits c.args.declared.now.constant.now rs)) c.args.roles.now c.loop-role.role-index c.loop-role.out.items _ refl c.loop-role-test.false c.loop-role.invariant
