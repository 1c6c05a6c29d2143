use Rattle.std.proofs.Common.{ℕ, ◌<◌, ◌≤◌, ◌-◌, length, get_or}
use Rattle.pb_sim_ready.proofs.place.place_of.Given as goal

abbrev pub invariant-loop-low : goal.invariant-loop-low
invariant-loop-low l = record {
  ordered : l.low ≤ l.high;
  within : l.high ≤ length l.list;
  below : (k : ℕ) → k < l.low → get_or l.list k 0 < l.number;
  above : (k : ℕ) → l.high ≤ k → k < length l.list → l.number ≤ get_or l.list k 0;
}

abbrev pub decreases-loop-low : goal.decreases-loop-low
decreases-loop-low l = l.high - l.low
