use Rattle.std.proofs.Common.{[], ap, subst, rules}
use Rattle.std.proofs.lemmas.Result.{err_from_is_err_and}
use Rattle.pb_strips_syntax.specs.Flattening.{flat_roles, roles_with}
use Rattle.pb_strips_flatten.specs.RoleEnds.{RoleFits, RolesFit}
use Rattle.pb_strips_flatten.proofs.Fitting.{role_unrolled, roles_stop}
use Rattle.pb_strips_flatten.proofs.roles.all_roles.Goals as goal

pub returns-in_err-add : goal.returns-in_err-add
returns-in_err-add c =
    let p = err_from_is_err_and c.from_residual.result c.from_residual.ensures.1 in
    let r = c.role-item.result in
    let left = role_unrolled c.args.roles.now c.loop-role.role-index r (search rules) c.role-item.is in
    rw (p.1, p.2) (roles_stop c.in_err-add.field-0.0 [] (flat_roles c.args.roles.now) c.loop-role.out.list.items _ (roles_with r.role r.range r.columns) _ (RolesFit c.args.roles.now) (RoleFits r)
    (ap flat_roles left) c.loop-role.invariant.all
    (λ fits. (subst RolesFit left (c.loop-role.invariant.fits fits)).0) c.in_err-add.ensures)
