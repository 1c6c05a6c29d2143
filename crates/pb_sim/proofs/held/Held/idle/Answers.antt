use Rattle.std.proofs.Common.{subst}
use Rattle.pb_local.specs.Family.{family}
use Rattle.pb_sim_world.specs.States.{program}
use Rattle.pb_sim_world.specs.Worlds.{world_of}
use Rattle.pb_sim.specs.declared.seen.Seen.{Seen}
use Rattle.pb_sim.specs.Standing.{TellsIdle}
use Rattle.pb_sim.proofs.held.Held.idle.Goals as goal

pub returns : goal.returns
returns c = λ sequence. subst (λ (x : Seen). TellsIdle (family (program x.state) x.state.n sequence) (world_of x.state) c.args.rank c.idle.result) c.self.view_is (c.idle.ensures sequence)
