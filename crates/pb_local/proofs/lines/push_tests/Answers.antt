use Rattle.std.proofs.Common.{refl}
use Rattle.pb_local.specs.Layout.{test_line, test_lines}
use Rattle.pb_local.specs.Tree.{program_of}
use Rattle.pb_local.proofs.Steps.{text_step}
use Rattle.pb_local.proofs.lines.push_tests.Goals as goal

pub loop-test-preserved : goal.loop-test-preserved
loop-test-preserved c =
    let p = program_of c.args.local.now in
    text_step (test_lines p c.args.depth) (test_line p c.args.depth) c.args.tests.now _ c.test-item.result _ _ _ (λ y ys. refl) c.loop-test-test.true c.test-item.is c.in_ok-push_test.ensures c.loop-test.invariant
