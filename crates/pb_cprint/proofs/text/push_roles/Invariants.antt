use Rattle.std.proofs.Common.{◌≡◌, ◌++◌, drop}
use Rattle.pb_cprint.specs.Framed.{roles_written}
use Rattle.pb_cprint.proofs.text.push_roles.Given as goal

abbrev pub invariant-loop-role : goal.invariant-loop-role
invariant-loop-role l = l.out.items ++ roles_written (drop l.role-index l.roles) ≡ l.initial.out.items ++ roles_written l.roles
