use Rattle.std.proofs.Common.{◌≡◌, ◌++◌, drop}
use Rattle.pb_local.specs.Tree.{program_of}
use Rattle.pb_cprint.specs.Written.{tests_written}
use Rattle.pb_cprint.proofs.choices.push_next_tests.Given as goal

abbrev pub invariant-loop-test : goal.invariant-loop-test
invariant-loop-test l = l.out.items ++ tests_written (program_of l.local) l.depth (drop l.test-index l.tests) ≡ l.initial.out.items ++ tests_written (program_of l.local) l.depth l.tests
