use Rattle.std.proofs.Common.{◌≡◌, ◌++◌, map, drop}
use Rattle.pb_shape.specs.Places.{role_of}
use Rattle.pb_project.proofs.local.roles_of.Given as goal

abbrev pub invariant-loop-role : goal.invariant-loop-role
invariant-loop-role l = l.list.items ++ map role_of (drop l.role-index l.roles) ≡ map role_of l.roles
