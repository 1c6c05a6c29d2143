use Rattle.std.proofs.Common.{◌≡◌}
use Rattle.pb_sim_count.specs.Played.{HasMade, eager}
use Rattle.pb_sim_count.proofs.playing.play.Given as goal

abbrev pub invariant-loop-at : goal.invariant-loop-at
invariant-loop-at g l = record {
  turn : l.picks.turn ≡ l._at;
  seed : l.picks.seed ≡ l.fn.seed;
  answers : l.sim.answers ≡ l.fn.sim.answers;
  made : HasMade l.fn.sim.held.state.tree l.fn.sim.held.state.n (λ r k w. g.A.Fn.post l.fn.sim.answers.answer (l.fn.sim.answers.seed, (r, (k, tt))) w) (eager l.fn.seed) l._at l.sim.held;
}
