use Rattle.std.proofs.Common.{◌∷◌, [], ap, subst, refl}
use Rattle.pb_machine.specs.declared.act.Input.TheVariants.{Plain}
use Rattle.pb_machine.specs.Steps.{goes_with}
use Rattle.pb_world.specs.Actions.{Run}
use Rattle.pb_world.specs.Family.{running}
use Rattle.pb_sim_world.specs.declared.state.State.{State}
use Rattle.pb_sim_world.specs.States.{next_step, stand}
use Rattle.pb_sim_world.specs.Events.{IsEvent, IsOther}
use Rattle.pb_sim_world.proofs.Advancing.{made}
use Rattle.pb_sim_world.proofs.Alone.{internal_event, run_next, as_it_was}
use Rattle.pb_sim_world.proofs.state.State.run.Goals as goal

pub advance-requires-clause-input : goal.advance-requires-clause-input
advance-requires-clause-input c = ap (λ x. goes_with x Plain) c.requires.next_is

pub returns-clause-event : goal.returns-clause-event
returns-clause-event c =
    subst (λ (t : State). IsEvent c.args.self.now c.args.rank (Run c.args.kernel ∷ []) t × IsOther c.args.self.now c.args.rank t)
    (made c.args.self.now c.advance.new.self c.args.self.now.stands c.args.self.now.channels c.args.self.now.joins c.advance.ensures.tree c.advance.ensures.n c.advance.ensures.stands c.advance.ensures.channels c.advance.ensures.joins)
    (internal_event c.args.self.now c.args.rank c.advance.new.self.ranks (stand c.args.self.now c.args.rank) c.args.self.now.stands (Run c.args.kernel) Plain _ c.requires (run_next (next_step c.args.self.now c.args.rank) c.args.kernel c.requires.next_is) running refl refl c.advance.ensures.advanced
    (as_it_was c.args.self.now c.args.rank c.advance.new.self.ranks c.requires.sound c.requires.there) refl refl refl)
