use Rattle.std.proofs.Common.{◌↔◌, subst}
use Rattle.std.specs.Bool.{IsTrue}
use Rattle.pb_sim.specs.declared.seen.Seen.{Seen}
use Rattle.pb_sim.specs.Made.{HasStep}
use Rattle.pb_sim.proofs.Listing.{ready_is}
use Rattle.pb_sim.proofs.held.Held.is_ready.Goals as goal

pub returns-clause-step : goal.returns-clause-step
returns-clause-step c = λ sequence. subst (λ (x : Seen). IsTrue c.is_ready.result ↔ HasStep x sequence c.args.rank) c.self.view_is (ready_is c.self.inside.seen sequence c.args.rank c.is_ready.result c.self.invariant.readied.state c.is_ready.ensures)
