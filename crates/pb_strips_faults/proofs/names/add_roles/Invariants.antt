use Rattle.std.proofs.Common.{◌≡◌, ◌++◌, drop}
use Rattle.pb_strips_faults.specs.Spelled.{of_roles}
use Rattle.pb_strips_faults.proofs.names.add_roles.Given as goal

abbrev pub invariant-loop-role : goal.invariant-loop-role
invariant-loop-role l = l.out.items ++ of_roles (drop l.role-index l.roles) ≡ l.fn.out.items ++ of_roles l.roles
