use Rattle.std.proofs.Common.{◌≡◌, ◌++◌, drop}
use Rattle.pb_local.specs.Layout.{test_lines}
use Rattle.pb_local.specs.Tree.{program_of}
use Rattle.pb_local.proofs.lines.push_tests.Given as goal

abbrev pub invariant-loop-test : goal.invariant-loop-test
invariant-loop-test l = l.out.items ++ test_lines (program_of l.local) l.depth (drop l.test-index l.tests) ≡ l.initial.out.items ++ test_lines (program_of l.local) l.depth l.tests
