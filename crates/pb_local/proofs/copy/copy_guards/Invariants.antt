use Rattle.std.proofs.Common.{◌≡◌, ◌++◌, drop}
use Rattle.pb_local.proofs.copy.copy_guards.Given as goal

abbrev pub invariant-loop-guard : goal.invariant-loop-guard
invariant-loop-guard l = l.list ++ drop l.guard-index l.guards ≡ l.guards
