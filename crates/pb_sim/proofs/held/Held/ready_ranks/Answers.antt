use Rattle.std.proofs.Common.{ℕ, List, sym, subst}
use Rattle.pb_local.specs.Family.{family}
use Rattle.pb_sim_world.specs.States.{program}
use Rattle.pb_sim_world.specs.Worlds.{world_of}
use Rattle.pb_sim.specs.declared.seen.Seen.{Seen}
use Rattle.pb_sim.specs.Runs.{IsReadyList}
use Rattle.pb_sim.proofs.Listing.{ready_list}
use Rattle.pb_sim.proofs.held.Held.ready_ranks.Goals as goal

pub returns : goal.returns
returns c = λ sequence.
    subst (λ (x : Seen). IsReadyList (family (program x.state) x.state.n sequence) (world_of x.state) c.list.result.now) c.self.view_is
    (subst (λ (xs : List ℕ). IsReadyList (family (program c.self.inside.seen.state) c.self.inside.seen.state.n sequence) (world_of c.self.inside.seen.state) xs) (sym c.list.ensures) (ready_list c.self.inside.seen sequence c.self.invariant.readied))
