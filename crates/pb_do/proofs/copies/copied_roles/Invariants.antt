use Rattle.std.proofs.Common.{◌≡◌, ◌++◌, drop}
use Rattle.pb_do.proofs.copies.copied_roles.Given as goal

abbrev pub invariant-loop-role : goal.invariant-loop-role
invariant-loop-role l = l.list.items ++ drop l.role-index l.roles ≡ l.roles
