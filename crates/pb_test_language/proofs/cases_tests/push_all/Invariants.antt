use Rattle.std.specs.List.{All}
use Rattle.pb_cases.specs.Tested.{IsInner}
use Rattle.pb_test_language.proofs.cases_tests.push_all.Given as goal

abbrev pub invariant-loop-offset : goal.invariant-loop-offset
invariant-loop-offset l = All IsInner l.list.items
