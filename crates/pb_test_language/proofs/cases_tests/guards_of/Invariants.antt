use Rattle.std.specs.List.{All}
use Rattle.pb_affine.specs.Values.{IsSmallGuard}
use Rattle.pb_cases.specs.Bounds.{IsAligned}
use Rattle.pb_test_language.proofs.cases_tests.guards_of.Given as goal

abbrev pub invariant-loop-row : goal.invariant-loop-row
invariant-loop-row l = record { aligned : All (IsAligned l.cases) l.list.items; small : All IsSmallGuard l.list.items }
