use Rattle.std.proofs.Common.{◌≡◌, ◌≤◌}
use Rattle.pb_sim_play.specs.Plans.{source_of, IsAt}
use Rattle.pb_sim_play.specs.Records.{shown_by, HasPlayed}
use Rattle.pb_sim_play.proofs.play.play.Given as goal

abbrev pub invariant-loop-at : goal.invariant-loop-at
invariant-loop-at g l = record {
  at : IsAt l.plan l.at;
  source : source_of l.plan ≡ source_of l.fn.plan;
  answers : l.sim.answers ≡ l.fn.sim.answers;
  tree : l.sim.held.state.tree ≡ l.fn.sim.held.state.tree;
  n : l.sim.held.state.n ≡ l.fn.sim.held.state.n;
  played : HasPlayed l.fn.sim.held.state.tree l.fn.sim.held.state.n (λ r k w. g.A.Fn.post l.fn.sim.answers.answer (l.fn.sim.answers.seed, (r, (k, tt))) w) (source_of l.fn.plan) (g.O.Sink.taken l.fn.out) l.at l.sim.held l.kept (g.O.Sink.taken l.out);
  shown : shown_by l.kept ≡ shown_by l.fn.kept;
  later : g.O.Sink.faults l.fn.out ≤ g.O.Sink.faults l.out;
}
