use Rattle.std.proofs.Common.{◌≡◌, drop}
use Rattle.pb_machine_next.specs.Numbers.{tested}
use Rattle.pb_machine_next.proofs.numbers.tested.Given as goal

abbrev pub invariant-loop-test : goal.invariant-loop-test
invariant-loop-test l = tested (drop l.test-index l.tests) l.label l.me l.i ≡ tested l.tests l.label l.me l.i
