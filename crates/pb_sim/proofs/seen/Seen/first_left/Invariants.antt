use Rattle.std.proofs.Common.{◌≡◌, ◌<◌, ℕ}
use Rattle.pb_machine.specs.declared.act.Next.TheVariants.{Ended}
use Rattle.pb_sim_world.specs.States.{next_at}
use Rattle.pb_sim.proofs.seen.Seen.first_left.Given as goal

abbrev pub invariant-loop-rank : goal.invariant-loop-rank
invariant-loop-rank l = (q : ℕ) → q < l.rank → next_at l.self.state q ≡ Ended
