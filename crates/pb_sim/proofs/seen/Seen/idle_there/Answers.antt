use Rattle.std.proofs.Common.{◌∙◌, sym, subst, Some}
use Rattle.pb_local.specs.Family.{family}
use Rattle.pb_sim_world.specs.States.{program}
use Rattle.pb_sim_world.specs.Worlds.{world_of}
use Rattle.pb_sim.specs.Standing.{TellsIdle}
use Rattle.pb_sim.proofs.Idle.{ready, ended, idle}
use Rattle.pb_sim.proofs.Listing.{not_true}
use Rattle.pb_sim.proofs.seen.Seen.idle_there.Goals as goal

pub returns-then-is_ready : goal.returns-then-is_ready
returns-then-is_ready c = λ sequence. let p = c.is_ready.ensures.0 c.if-is_ready.true in ready c.args.self.now.state sequence c.requires.seen.readied.state c.args.rank p.0 p.1

pub returns-in-Ended : goal.returns-in-Ended
returns-in-Ended c = λ sequence. ended c.args.self.now.state sequence c.requires.seen.readied.state c.args.rank (sym c.next.ensures ∙ c.in-Ended.is)

pub returns-in_default : goal.returns-in_default
returns-in_default c = λ sequence.
    subst (λ cause. TellsIdle (family (program c.args.self.now.state) c.args.self.now.state.n sequence) (world_of c.args.self.now.state) c.args.rank (Some cause)) (sym c.cause.ensures)
    (idle c.args.self.now.state sequence c.requires.seen.readied.state c.args.rank c.requires.there (λ e. c.in_default.not-Ended (c.next.ensures ∙ e)) (λ e. not_true c.is_ready.result c.if-is_ready.false (c.is_ready.ensures.1 (c.requires.there, e))))
