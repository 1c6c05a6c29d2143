use Rattle.std.proofs.Common.{◌≡◌, ℕ, ◌<◌, length, true}
use Rattle.pb_diff.specs.Systems.{has_pair}
use Rattle.pb_test_language.proofs.diff_tests.bounded.Given as goal

abbrev pub invariant-loop-v : goal.invariant-loop-v
invariant-loop-v l = record {
  vars : l.system.vars ≡ l.vars;
  few : length l.system.list < l.v;
  lows : (w : ℕ) → 0 < w → w < l.v → has_pair 0 w l.system.list ≡ true;
}
