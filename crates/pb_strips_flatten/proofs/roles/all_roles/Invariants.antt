use Rattle.std.proofs.Common.{◌≡◌, ◌++◌, drop}
use Rattle.pb_strips_syntax.specs.Flattening.{flat_roles}
use Rattle.pb_strips_flatten.specs.RoleEnds.{RolesFit}
use Rattle.pb_strips_flatten.proofs.roles.all_roles.Given as goal

abbrev pub invariant-loop-role : goal.invariant-loop-role
invariant-loop-role l = record {
  all : l.out.list.items ++ flat_roles (drop l.role-index l.roles) ≡ flat_roles l.roles;
  fits : RolesFit l.roles → RolesFit (drop l.role-index l.roles);
}
