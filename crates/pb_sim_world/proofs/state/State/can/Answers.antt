use Rattle.std.proofs.Common.{◌∙◌, sym}
use Rattle.pb_sim_world.proofs.Converse.{can_of}
use Rattle.pb_sim_world.proofs.Stepping.{has_step}
use Rattle.pb_sim_world.proofs.state.State.can.Goals as goal

pub returns-clause-event : goal.returns-clause-event
returns-clause-event c = λ sequence. (
  (λ e. has_step c.args.self.now c.args.rank c.requires.sound c.requires.there sequence (sym c.can_go.ensures ∙ e)),
  (λ h. c.can_go.ensures ∙ can_of c.args.self.now c.args.rank sequence c.requires.sound h),
)
