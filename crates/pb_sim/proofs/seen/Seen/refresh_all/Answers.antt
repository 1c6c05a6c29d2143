use Rattle.std.proofs.Common.{◌≡◌, ◌∙◌, subst, rules}
use Rattle.pb_sim_ready.specs.Kept.{put}
use Rattle.pb_sim_ready.specs.Listed.{Lists}
use Rattle.pb_sim_world.specs.declared.state.State.{State}
use Rattle.pb_sim_world.specs.Can.{can}
use Rattle.pb_sim.proofs.Exact.{one_further, all_done}
use Rattle.pb_sim.proofs.seen.Seen.refresh_all.Goals as goal

pub loop-rank-preserved : goal.loop-rank-preserved
loop-rank-preserved c = record {
  state = c.refresh.ensures.state ∙ c.loop-rank.invariant.state;
  counts = c.refresh.ensures.counts ∙ c.loop-rank.invariant.counts;
  steps = c.refresh.ensures.steps ∙ c.loop-rank.invariant.steps;
  total = c.refresh.ensures.total ∙ c.loop-rank.invariant.total;
  ready = λ f h. one_further c.loop-rank.self.ready c.refresh.new.self.ready (can c.args.self.now.state) f c.loop-rank.rank
      (λ g k. subst (λ (u : State). Lists c.refresh.new.self.ready (put g c.loop-rank.rank (can u c.loop-rank.rank))) c.loop-rank.invariant.state (c.refresh.ensures.ready g k))
      (c.loop-rank.invariant.ready f h);
}

pub returns-clause-ready : goal.returns-clause-ready
returns-clause-ready c = λ f h.
    let n : c.loop-rank.self.ready.total ≡ c.loop-rank.rank = search rules in
    all_done c.loop-rank.self.ready (can c.args.self.now.state) f c.loop-rank.rank n (c.loop-rank.invariant.ready f h)
