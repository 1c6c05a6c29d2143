use Rattle.std.proofs.Common.{ap, subst}
use Rattle.pb_machine.specs.declared.act.Input.TheVariants.{Tag}
use Rattle.pb_machine.specs.Steps.{goes_with}
use Rattle.pb_sim_world.specs.declared.state.State.{State}
use Rattle.pb_sim_world.specs.Events.{IsEvent, IsOther}
use Rattle.pb_sim_world.proofs.Advancing.{made}
use Rattle.pb_sim_world.proofs.Alone.{read_event}
use Rattle.pb_sim_world.proofs.state.State.read.Goals as goal

pub advance-requires-clause-input : goal.advance-requires-clause-input
advance-requires-clause-input c = ap (λ x. goes_with x (Tag c.args.tag)) c.requires.may.next_is

pub returns-clause-event : goal.returns-clause-event
returns-clause-event c =
    subst (λ (t : State). IsEvent c.args.self.now c.args.rank _ t × IsOther c.args.self.now c.args.rank t)
    (made c.args.self.now c.advance.new.self c.args.self.now.stands c.args.self.now.channels c.args.self.now.joins c.advance.ensures.tree c.advance.ensures.n c.advance.ensures.stands c.advance.ensures.channels c.advance.ensures.joins)
    (read_event c.args.self.now c.args.rank c.advance.new.self.ranks c.args.from c.args.tag c.requires.may c.requires.head c.requires.test c.advance.ensures.advanced)
