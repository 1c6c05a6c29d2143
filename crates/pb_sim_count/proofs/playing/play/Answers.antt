use Rattle.std.proofs.Common.{◌≡◌, ◌+◌, suc, Err, ap, sym, ◌∙◌, arith}
use Rattle.pb_sim_play.proofs.Turns.{carry}
use Rattle.pb_sim_count.specs.Played.{HasGone, HasMade, eager}
use Rattle.pb_sim_count.proofs.Events.{halted}
use Rattle.pb_sim_count.proofs.playing.play.Goals as goal

pub returns-in-Err : goal.returns-in-Err
returns-in-Err g c =
    let tree = c.args.sim.now.held.state.tree in
    let n = c.args.sim.now.held.state.n in
    let has = carry (λ a s k. HasMade tree n (λ r j w. g.A.Fn.post a.answer (a.seed, (r, (j, tt))) w) (eager s) k c.loop-at.sim.held)
    _ _ _ _ _ _ (sym c.loop-at.invariant.answers) (sym c.loop-at.invariant.seed) (sym c.loop-at.invariant.turn) c.loop-at.invariant.made in
    let gone = c.in-Err.ensures.gone tree n has in
    halted tree n _ (eager c.args.seed) 1000000 c.loop-at._at c.event.new.sim.held c.in-Err.stop c.loop-at-test.true
    (carry (λ a s k. HasGone tree n (λ r j w. g.A.Fn.post a.answer (a.seed, (r, (j, tt))) w) (eager s) k c.event.new.sim.held (Err c.in-Err.stop))
    c.loop-at.sim.answers c.args.sim.now.answers c.loop-at.picks.seed c.args.seed c.loop-at.picks.turn c.loop-at._at c.loop-at.invariant.answers c.loop-at.invariant.seed c.loop-at.invariant.turn gone)

pub loop-at-preserved : goal.loop-at-preserved
loop-at-preserved g c =
    let tree = c.args.sim.now.held.state.tree in
    let n = c.args.sim.now.held.state.n in
    let has = carry (λ a s k. HasMade tree n (λ r j w. g.A.Fn.post a.answer (a.seed, (r, (j, tt))) w) (eager s) k c.loop-at.sim.held)
    _ _ _ _ _ _ (sym c.loop-at.invariant.answers) (sym c.loop-at.invariant.seed) (sym c.loop-at.invariant.turn) c.loop-at.invariant.made in
    let more = c.in-Ok.ensures.gone tree n has in
    let at = c.loop-at.invariant.turn in
    let one : suc c.loop-at.picks.turn ≡ c.loop-at._at + 1 = omega (arith, at) in
    record {
      turn = c.in-Ok.ensures.turn ∙ ap (λ k. k + 1) at;
      seed = c.in-Ok.ensures.seed ∙ c.loop-at.invariant.seed;
      answers = c.in-Ok.ensures.answers ∙ c.loop-at.invariant.answers;
      made = carry (λ a s k. HasMade tree n (λ r j w. g.A.Fn.post a.answer (a.seed, (r, (j, tt))) w) (eager s) k c.event.new.sim.held)
          c.loop-at.sim.answers c.args.sim.now.answers c.loop-at.picks.seed c.args.seed (suc c.loop-at.picks.turn) (c.loop-at._at + 1) c.loop-at.invariant.answers c.loop-at.invariant.seed one more;
    }
