-- Why one rank has no step, or that it isn't idle.
use Rattle.std.proofs.Common.{◌≡◌, ◌≢◌, ◌<◌, ◌≤◌, ℕ, true, Some, None, inl, inr, ap, length, arith}
use Rattle.std.proofs.lemmas.Bool.{false_from_ne_true}
use Rattle.pb_world.specs.Machine as N
use Rattle.pb_local.specs.Family.{Sequence, family}
use Rattle.pb_machine.specs.declared.act.Next.TheVariants as X
use Rattle.pb_machine.specs.Steps.{next_of}
use Rattle.pb_sim_world.specs.declared.state.State.{State}
use Rattle.pb_sim_world.specs.States.{program, total_of, next_step, next_at}
use Rattle.pb_sim_world.specs.Worlds.{world_of}
use Rattle.pb_sim_world.specs.Can.{can}
use Rattle.pb_sim_world.specs.Sound.{IsState}
use Rattle.pb_sim_world.proofs.Stepping.{has_step}
use Rattle.pb_sim_world.proofs.Converse.{can_of}
use Rattle.pb_sim.specs.Causes.{cause_of}
use Rattle.pb_sim.specs.Standing.{TellsIdle}
use Rattle.pb_sim.proofs.Standings.{ended_next, cause_is}

module _ (s : State) (sequence : Sequence) (sound : IsState s) (r : ℕ) where
  pub away : length s.ranks.items ≤ r → TellsIdle (family (program s) s.n sequence) (world_of s) r None
  away out = λ there. absurd (let l : length s.ranks.items ≡ total_of s = sound.ranks in omega (arith, out, there, l))

  pub ready : r < total_of s → can s r ≡ true → TellsIdle (family (program s) s.n sequence) (world_of s) r None
  ready there e = λ lt. inr (has_step s r sound there sequence e)

  pub ended : next_at s r ≡ X.Ended → TellsIdle (family (program s) s.n sequence) (world_of s) r None
  ended e = λ lt. inl (ended_next (next_step s r) e)

  pub idle : r < total_of s → next_at s r ≢ X.Ended → (can s r ≡ true → ⊥) → TellsIdle (family (program s) s.n sequence) (world_of s) r (Some (cause_of s r))
  idle there goes stops = record { there = there; goes_on = going; idle = λ can_step. stops (can_of s r sequence sound can_step); why = cause_is s sequence sound r there going (false_from_ne_true (can s r) stops) } where
    going : next_step s r ≢ N.Ended
    going e = goes (ap next_of e)
