use Rattle.std.proofs.Common.{◌≡◌, ◌+◌, ◌≤◌, length}
use Rattle.pb_diff.specs.Systems.{IsBoundedBelow}
use Rattle.pb_test_language.proofs.diff_tests.least_with.Given as goal

abbrev pub invariant-loop-triple : goal.invariant-loop-triple
invariant-loop-triple l = record {
  vars : l.system.vars ≡ l.vars;
  few : length l.system.list ≤ 5 + l.triple-index;
  bounded : IsBoundedBelow l.system;
}
