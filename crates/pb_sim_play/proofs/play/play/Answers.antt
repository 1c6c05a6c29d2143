use Rattle.std.proofs.Common.{rules, ◌≡◌, ◌≤◌, ◌<◌, ◌+◌, suc, ap, sym, subst, ◌∙◌, arith}
use Rattle.pb_sim_world.specs.Worlds.{world_of}
use Rattle.pb_sim_play.specs.Plans.{source_of, pair_of, May, IsNext, IsOver}
use Rattle.pb_sim_play.specs.Records.{shown_by, HasPlayed}
use Rattle.pb_sim_play.specs.Endings.{HasFailed}
use Rattle.pb_sim_play.proofs.Turns.{may_next, spent, over_at, halted, carry}
use Rattle.pb_sim_play.proofs.play.play.Goals as goal

pub returns-in-None-clause-stopped : goal.returns-in-None-clause-stopped
returns-in-None-clause-stopped g c =
    over_at _ _ _ (source_of c.args.plan.now) c.args.most (shown_by c.args.kept.now) _ c.loop-at.at c.loop-at.sim.held c.loop-at.kept _ (omega arith) c.loop-at.invariant.played
    (spent c.loop-at.sim.held (source_of c.args.plan.now) c.loop-at.at c.ready_ranks.result.now c.ready_ranks.ensures
    (subst (λ s. IsOver s c.loop-at.at c.ready_ranks.result.now) c.loop-at.invariant.source c.in-None.ensures.turn))

pub returns-in-Err-clause-stopped : goal.returns-in-Err-clause-stopped
returns-in-Err-clause-stopped g c =
    let source = source_of c.args.plan.now in
    let start = g.O.Sink.taken c.args.out.now in
    let may = may_next c.loop-at.sim.held source c.loop-at.at c.ready_ranks.result.now (pair_of c.in-Some.turn) c.ready_ranks.ensures
    (subst (λ s. IsNext s c.loop-at.at c.ready_ranks.result.now (pair_of c.in-Some.turn)) c.loop-at.invariant.source c.in-Some.ensures.turn) in
    let played = carry (λ t n a. HasPlayed t n (λ r k w. g.A.Fn.post a.answer (a.seed, (r, (k, tt))) w) source start c.loop-at.at c.loop-at.sim.held c.loop-at.kept (g.O.Sink.taken c.loop-at.out))
    _ _ _ _ _ _ (sym c.loop-at.invariant.tree) (sym c.loop-at.invariant.n) (sym c.loop-at.invariant.answers) c.loop-at.invariant.played in
    let failed = c.in-Err.ensures.failed source start may played in
    let again = subst (λ s. HasFailed c.loop-at.sim.held.state.tree c.loop-at.sim.held.state.n (λ r k w. g.A.Fn.post c.loop-at.sim.answers.answer (c.loop-at.sim.answers.seed, (r, (k, tt))) w) source s start c.loop-at.at c.in-Err.stop c.event.new.kept (g.O.Sink.taken c.event.new.out))
    c.loop-at.invariant.shown failed in
    let back = carry (λ t n a. HasFailed t n (λ r k w. g.A.Fn.post a.answer (a.seed, (r, (k, tt))) w) source (shown_by c.args.kept.now) start c.loop-at.at c.in-Err.stop c.event.new.kept (g.O.Sink.taken c.event.new.out))
    c.loop-at.sim.held.state.tree c.args.sim.now.held.state.tree c.loop-at.sim.held.state.n c.args.sim.now.held.state.n c.loop-at.sim.answers c.args.sim.now.answers
    c.loop-at.invariant.tree c.loop-at.invariant.n c.loop-at.invariant.answers again in
    halted _ _ _ source c.args.most (shown_by c.args.kept.now) start c.loop-at.at c.event.new.sim.held c.event.new.kept (g.O.Sink.taken c.event.new.out) c.loop-at-test.true c.in-Err.stop back

pub loop-at-preserved : goal.loop-at-preserved
loop-at-preserved g c =
    let source = source_of c.args.plan.now in
    let start = g.O.Sink.taken c.args.out.now in
    let may = may_next c.loop-at.sim.held source c.loop-at.at c.ready_ranks.result.now (pair_of c.in-Some.turn) c.ready_ranks.ensures
    (subst (λ s. IsNext s c.loop-at.at c.ready_ranks.result.now (pair_of c.in-Some.turn)) c.loop-at.invariant.source c.in-Some.ensures.turn) in
    let played = carry (λ t n a. HasPlayed t n (λ r k w. g.A.Fn.post a.answer (a.seed, (r, (k, tt))) w) source start c.loop-at.at c.loop-at.sim.held c.loop-at.kept (g.O.Sink.taken c.loop-at.out))
    _ _ _ _ _ _ (sym c.loop-at.invariant.tree) (sym c.loop-at.invariant.n) (sym c.loop-at.invariant.answers) c.loop-at.invariant.played in
    let made = c.in-Ok.ensures.made source start may played in
    let one : suc c.loop-at.at ≡ c.loop-at.at + 1 = omega arith in
    let more = subst (λ k. HasPlayed c.loop-at.sim.held.state.tree c.loop-at.sim.held.state.n (λ r k w. g.A.Fn.post c.loop-at.sim.answers.answer (c.loop-at.sim.answers.seed, (r, (k, tt))) w) source start k c.event.new.sim.held c.event.new.kept (g.O.Sink.taken c.event.new.out)) one made in
    let later = c.loop-at.invariant.later in
    let now = c.in-Ok.ensures.later in
    record {
      at = c.in-Some.ensures.at;
      source = c.in-Some.ensures.source ∙ c.loop-at.invariant.source;
      answers = c.in-Ok.ensures.answers ∙ c.loop-at.invariant.answers;
      tree = c.in-Ok.ensures.tree ∙ c.loop-at.invariant.tree;
      n = c.in-Ok.ensures.n ∙ c.loop-at.invariant.n;
      played = carry (λ t n a. HasPlayed t n (λ r k w. g.A.Fn.post a.answer (a.seed, (r, (k, tt))) w) source start (c.loop-at.at + 1) c.event.new.sim.held c.event.new.kept (g.O.Sink.taken c.event.new.out))
          c.loop-at.sim.held.state.tree c.args.sim.now.held.state.tree c.loop-at.sim.held.state.n c.args.sim.now.held.state.n c.loop-at.sim.answers c.args.sim.now.answers
          c.loop-at.invariant.tree c.loop-at.invariant.n c.loop-at.invariant.answers more;
      shown = c.in-Ok.ensures.shown ∙ c.loop-at.invariant.shown;
      later = omega (arith, later, now);
    }
