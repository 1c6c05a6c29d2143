use Rattle.std.proofs.Common.{refl}
use Rattle.pb_local.specs.Tree.{program_of}
use Rattle.pb_cprint.specs.Written.{test_written, tests_written}
use Rattle.pb_cprint.proofs.Blocks.{one_round}
use Rattle.pb_cprint.proofs.choices.push_next_tests.Goals as goal

pub loop-test-preserved : goal.loop-test-preserved
loop-test-preserved c =
    let p = program_of c.args.local.now in
    one_round (tests_written p c.args.depth) (test_written p c.args.depth) c.args.tests.now _ c.test-item.result _ _ _ (λ t ts. refl)
    c.loop-test-test.true c.test-item.is c.in_ok-push_next_test.ensures c.loop-test.invariant
