use Rattle.std.proofs.Common.{◌≡◌, ◌++◌, drop}
use Rattle.pb_core_language.specs.Meaning.{roles_of}
use Rattle.pb_core.proofs.assemble.core_roles.Given as goal

abbrev pub invariant-loop-role : goal.invariant-loop-role
invariant-loop-role l = l.list.items ++ roles_of l.constant (drop l.role-index l.roles) ≡ roles_of l.constant l.roles
