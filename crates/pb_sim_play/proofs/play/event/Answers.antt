use Rattle.std.proofs.Common.{rules, refl, subst, ◌∙◌}
use Rattle.pb_sim.specs.Made.{IsRefusal}
use Rattle.pb_sim_play.specs.Plans.{pair_of}
use Rattle.pb_sim_play.specs.Records.{shown_by}
use Rattle.pb_sim.proofs.Runs.{too_much}
use Rattle.pb_sim_play.proofs.Events.{event_lost, event_broken}
use Rattle.pb_sim_play.proofs.play.event.Goals as goal

pub returns-in-Err-NoMemory-add-clause-failed : goal.returns-in-Err-NoMemory-add-clause-failed
returns-in-Err-NoMemory-add-clause-failed g c source start may played = (
  c.args.sim.now.held,
  event_lost _ _ _ source start _ c.args.sim.now.held c.step.new.self.held c.args.kept.now c.add.new.self (g.O.Sink.taken c.args.out.now) (g.O.Sink.taken c.add.new.out) c.args.turn c.in-Ok.done c.tree.result.now
      (c.tree.ensures ∙ c.in-Ok.ensures.made.stepped.event.tree) may played c.in-Ok.ensures.made (c.in-Err-NoMemory-add.ensures.same (search rules)),
)

pub returns-in-Ok-clause-failed : goal.returns-in-Ok-clause-failed
returns-in-Ok-clause-failed g c source start may played =
    event_broken _ _ _ source start _ c.args.sim.now.held c.step.new.self.held c.args.kept.now c.add.new.self (g.O.Sink.taken c.args.out.now) (g.O.Sink.taken c.add.new.out) c.args.turn c.in-Ok.done c.tree.result.now
    (c.tree.ensures ∙ c.in-Ok.ensures.made.stepped.event.tree) may played c.in-Ok.ensures.made (shown_by c.args.kept.now) (c.in-Err-WriteFault.ensures.front (search rules))

pub returns-in-Err-NotReady-clause-failed : goal.returns-in-Err-NotReady-clause-failed
returns-in-Err-NotReady-clause-failed g c source start may played =
    (refl, (c.args.sim.now.held, played, record { turn = pair_of c.args.turn; may = may; why = subst (λ f. IsRefusal c.args.sim.now.held c.args.turn.rank f) c.in-Err-NotReady.field-0-is c.in-Err-NotReady.ensures.refused }))

pub returns-in-Err-Full-clause-failed : goal.returns-in-Err-Full-clause-failed
returns-in-Err-Full-clause-failed g c source start may played =
    let refused = subst (λ f. IsRefusal c.args.sim.now.held c.args.turn.rank f) c.in-Err-Full.field-0-is c.in-Err-Full.ensures.refused in
    (c.args.sim.now.held, (played, record { turn = pair_of c.args.turn; may = may; why = (refused.0, too_much played.w c.args.sim.now.held c.args.turn.rank played.play.run.flight refused.1) }))
