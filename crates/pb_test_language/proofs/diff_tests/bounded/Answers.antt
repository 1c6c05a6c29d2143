use Rattle.std.proofs.Common.{refl, arith, ◌∙◌}
use Rattle.pb_diff.proofs.Bounded.{low_added}
use Rattle.pb_test_language.proofs.diff_tests.bounded.Goals as goal

pub loop-v-preserved : goal.loop-v-preserved
loop-v-preserved c =
    let step = low_added c.loop-v.system c.bound.new.self _ c.loop-v.v refl refl c.bound.ensures c.loop-v.invariant.lows in
    record { vars = step.vars ∙ c.loop-v.invariant.vars; few = omega (arith, step.few, c.loop-v.invariant.few); lows = step.lows }
