use Rattle.std.proofs.Common.{◌≡◌, ◌<◌, ◌∙◌, ℕ, length, ap, sym, subst, rules}
use Rattle.pb_sim_ready.specs.Kept.{kept}
use Rattle.pb_sim_world.specs.States.{total_of}
use Rattle.pb_sim_world.specs.Can.{can}
use Rattle.pb_local.specs.Family.{family}
use Rattle.pb_sim_world.specs.States.{program}
use Rattle.pb_sim_world.specs.Worlds.{world_of}
use Rattle.pb_sim.specs.Standing.{IsStanding}
use Rattle.pb_sim.specs.declared.standing.Standing.TheVariants.{Stuck}
use Rattle.pb_sim.proofs.Listing.{none_listed, some_listed}
use Rattle.pb_sim.proofs.Standings.{going_on, stuck_at}
use Rattle.pb_sim.proofs.seen.Seen.standing.Goals as goal

pub returns-then-not-is_empty : goal.returns-then-not-is_empty
returns-then-not-is_empty c = λ sequence.
    let some : 0 < length c.list.result.now = search rules in
    let k = some_listed (can c.args.self.now.state) (total_of c.args.self.now.state) c.list.result.now (c.list.ensures ∙ c.requires.readied.exact ∙ ap (λ (n : ℕ). kept (can c.args.self.now.state) n 0) c.requires.readied.total) some in
    going_on c.args.self.now.state sequence c.requires.readied.state k.0 k.1 k.2

pub returns-in-Some : goal.returns-in-Some
returns-in-Some c = λ sequence.
    let none : length c.list.result.now ≡ 0 = search rules in
    let idle = none_listed (can c.args.self.now.state) (total_of c.args.self.now.state) c.list.result.now (c.list.ensures ∙ c.requires.readied.exact ∙ ap (λ (n : ℕ). kept (can c.args.self.now.state) n 0) c.requires.readied.total) none in
    subst (λ cause. IsStanding (family (program c.args.self.now.state) c.args.self.now.state.n sequence) (world_of c.args.self.now.state) (Stuck c.in-Some.rank cause)) (sym c.cause.ensures)
    (stuck_at c.args.self.now.state sequence c.requires.readied.state idle c.in-Some.rank c.in-Some.ensures.some)
