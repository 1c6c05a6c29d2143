use Rattle.std.proofs.Common.{ℕ, ◌<◌, ◌≤◌, ◌-◌, ◌≤ℤ◌, ◌<ℤ◌, length}
use Rattle.pb_cases.specs.Numbers.{nth}
use Rattle.pb_cases.proofs.ascending.place_of.Given as goal

abbrev pub invariant-loop-low : goal.invariant-loop-low
invariant-loop-low l = record {
  within : l.high ≤ length l.list;
  order : l.low ≤ l.high;
  below : (j : ℕ) → j < l.low → nth l.list j <ℤ l.m;
  above : (j : ℕ) → l.high ≤ j → j < length l.list → l.m ≤ℤ nth l.list j;
}

abbrev pub decreases-loop-low : goal.decreases-loop-low
decreases-loop-low l = l.high - l.low
