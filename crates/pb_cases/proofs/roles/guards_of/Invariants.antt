use Rattle.std.proofs.Common.{◌≡◌, ◌++◌, drop}
use Rattle.pb_cases.specs.Roles.{of_role}
use Rattle.pb_cases.proofs.roles.guards_of.Given as goal

abbrev pub invariant-loop-guard : goal.invariant-loop-guard
invariant-loop-guard l = l.own.items ++ of_role l.role (drop l.guard-index l.guards) ≡ of_role l.role l.guards
