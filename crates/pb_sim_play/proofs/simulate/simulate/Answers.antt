use Rattle.std.proofs.Common.{◌≡◌, refl, subst, ◌∙◌}
use Rattle.pb_local.specs.Tree.{program_of}
use Rattle.pb_sim_play.specs.Plans.{source_of}
use Rattle.pb_sim_play.specs.Records.{shown_by}
use Rattle.pb_sim_play.specs.Endings.{part_of, text_of, HasBroken, WritesWhole}
use Rattle.pb_sim_play.proofs.Wholes.{begun, told_whole, told_refused, told_full, told_lost, broken_off}
use Rattle.pb_sim_play.proofs.simulate.simulate.Goals as goal

pub play-requires-clause-begun : goal.play-requires-clause-begun
play-requires-clause-begun g c =
    begun _ _ _ (source_of c.args.plan) (g.O.Sink.taken c.args.out.now) c.args.sim.now.held c.new-kept.result c.requires.begun (c.new-kept.ensures.holds (g.O.Sink.taken c.args.out.now) (program_of c.args.sim.now.held.state.tree.local))

pub returns-in-Made-clause-told : goal.returns-in-Made-clause-told
returns-in-Made-clause-told g c =
    told_whole _ _ _ (source_of c.args.plan) c.args.most c.args.shown c.args.seed (g.O.Sink.taken c.args.out.now) (g.O.Sink.taken c.end.new.out) c.play.new.sim.held c.play.new.kept (g.O.Sink.taken c.play.new.out)
    c.standing.result c.end.result c.requires.most c.in-Made.ensures.stopped (c.play.ensures.shown ∙ c.new-kept.ensures.shown) c.standing.ensures
    (λ s t turns w held. subst (λ e. WritesWhole e c.end.result s (g.O.Sink.taken c.end.new.out) (text_of (shown_by c.play.new.kept) c.args.seed t turns w) (part_of (shown_by c.play.new.kept) t w))
    c.ending_of.ensures.ending (c.end.ensures.writes s t turns w held))

pub returns-in-Refused-clause-told : goal.returns-in-Refused-clause-told
returns-in-Refused-clause-told g c =
    told_refused _ _ _ (source_of c.args.plan) c.args.most c.args.shown c.args.seed (g.O.Sink.taken c.args.out.now) (g.O.Sink.taken c.part.new.out) c.play.new.kept (g.O.Sink.taken c.play.new.out)
    _ c.part.result (c.play.ensures.shown ∙ c.new-kept.ensures.shown) c.part.ensures.writes c.in-Refused.at refl c.in-Refused.ensures.stopped

pub returns-in-Full-clause-told : goal.returns-in-Full-clause-told
returns-in-Full-clause-told g c =
    told_full _ _ _ (source_of c.args.plan) c.args.most c.args.shown c.args.seed (g.O.Sink.taken c.args.out.now) (g.O.Sink.taken c.part-in-Full.new.out) c.play.new.kept (g.O.Sink.taken c.play.new.out)
    _ c.part-in-Full.result (c.play.ensures.shown ∙ c.new-kept.ensures.shown) c.part-in-Full.ensures.writes refl c.in-Full.ensures.stopped

pub returns-in-NoMemory-clause-told : goal.returns-in-NoMemory-clause-told
returns-in-NoMemory-clause-told g c =
    told_lost _ _ _ (source_of c.args.plan) c.args.most c.args.shown c.args.seed (g.O.Sink.taken c.args.out.now) (g.O.Sink.taken c.part-in-NoMemory.new.out) c.play.new.kept (g.O.Sink.taken c.play.new.out)
    _ c.part-in-NoMemory.result (c.play.ensures.shown ∙ c.new-kept.ensures.shown) c.part-in-NoMemory.ensures.writes refl c.in-NoMemory.ensures.stopped

pub returns-in-WriteFault-clause-told : goal.returns-in-WriteFault-clause-told
returns-in-WriteFault-clause-told g c =
    broken_off _ _ _ (source_of c.args.plan) c.args.most c.args.shown c.args.seed (g.O.Sink.taken c.args.out.now) (g.O.Sink.taken c.play.new.out)
    (subst (λ s. HasBroken c.args.sim.now.held.state.tree c.args.sim.now.held.state.n (λ r k w. g.A.Fn.post c.args.sim.now.answers.answer (c.args.sim.now.answers.seed, (r, (k, tt))) w) (source_of c.args.plan) c.args.most s (g.O.Sink.taken c.args.out.now) (g.O.Sink.taken c.play.new.out))
    c.new-kept.ensures.shown c.in-WriteFault.ensures.stopped)
