use Rattle.pb_diff.proofs.Bounded.{grown}
use Rattle.pb_test_language.proofs.diff_tests.add.Goals as goal

pub returns-then-c-le1000000000000-clause-bounded : goal.returns-then-c-le1000000000000-clause-bounded
returns-then-c-le1000000000000-clause-bounded c = (grown c.args.system.now c.bound.new.self _ c.bound.ensures c.requires.bounded).bounded
