use Rattle.std.proofs.Common.{◌≡◌, drop}
use Rattle.pb_machine_next.specs.Numbers.{some_holds}
use Rattle.pb_machine_next.proofs.numbers.some_holds.Given as goal

abbrev pub invariant-loop-guard : goal.invariant-loop-guard
invariant-loop-guard l = some_holds (drop l.guard-index l.guards) l.me l.i ≡ some_holds l.guards l.me l.i
