use Rattle.std.proofs.Common.{[], sym, subst, arith}
use Rattle.pb_strips_syntax.specs.Flattening.{flat_roles}
use Rattle.pb_strips_flatten.specs.declared.stop.Stop.{Stop}
use Rattle.pb_strips_flatten.specs.RoleEnds.{RolesFit, RolesStop}
use Rattle.pb_strips_flatten.proofs.Fitting.{roles_fit, no_excess}
use Rattle.pb_strips_flatten.proofs.roles.flat_roles.Goals as goal

pub unreachable-requires : goal.unreachable-requires
unreachable-requires c =
    subst (λ (s : Stop). RolesStop s (flat_roles c.args.roles.now) (RolesFit c.args.roles.now) []) c.in-Err-Unnamed.field-0-is c.in-Err-Unnamed.ensures
    (roles_fit c.args.roles.now (sym c.in_default.ensures) c.requires)

pub returns-in-Ok-clause-few : goal.returns-in-Ok-clause-few
returns-in-Ok-clause-few c =
    no_excess c.args.roles.now c.in-Ok.out.list.items (sym c.in_default.ensures) c.in-Ok.ensures (omega (arith, c.in-Ok.out.few, c.in-Ok.out.list.ok.0))
