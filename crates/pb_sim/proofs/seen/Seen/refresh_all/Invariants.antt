use Rattle.std.proofs.Common.{◌≡◌, ℕ, Bool, nat_lt, if◌then◌else◌}
use Rattle.pb_sim_ready.specs.Listed.{Lists}
use Rattle.pb_sim_world.specs.Can.{can}
use Rattle.pb_sim.proofs.seen.Seen.refresh_all.Given as goal

abbrev pub invariant-loop-rank : goal.invariant-loop-rank
invariant-loop-rank l = record {
  state : l.self.state ≡ l.fn.self.state;
  counts : l.self.counts ≡ l.fn.self.counts;
  steps : l.self.steps ≡ l.fn.self.steps;
  total : l.self.ready.total ≡ l.fn.self.ready.total;
  ready : (f : ℕ → Bool) → Lists l.fn.self.ready f → Lists l.self.ready (λ k. if nat_lt k l.rank then can l.fn.self.state k else f k);
}
