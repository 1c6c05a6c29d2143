-- What a rank that has a step does next, and whether there is room for it.
use Rattle.std.proofs.Common.{◌≡◌, ◌<◌, ℕ, ◌+◌, Bool, true, false, nat_lt, Option, Some, None, refl, ap, sym, ◌∙◌, arith}
use Rattle.pb_machine.specs.declared.act.Next.{Next}
use Rattle.pb_machine.specs.declared.act.Act.TheVariants as A
use Rattle.pb_machine.specs.declared.act.Next.TheVariants as N
use Rattle.pb_machine.specs.Steps.{next_of}
use Rattle.pb_local.specs.Collectives.{words_of}
use Rattle.pb_chan.specs.Lists.{words_in}
use Rattle.std.proofs.lemmas.Bool.Decides.{nat_tests}
use Rattle.pb_sim_world.specs.declared.stand.Waits.{Waits}
use Rattle.pb_sim_world.specs.declared.state.State.{State}
use Rattle.pb_sim_world.specs.States.{program, total_of, stand, state_at, next_step, next_at}
use Rattle.pb_sim_world.specs.Can.{can_next, unless_waiting, can}
use Rattle.pb_sim_world.specs.Sound.{IsState}
use Rattle.pb_sim_world.specs.Events.{MayStep}
use Rattle.pb_sim_world.proofs.Sending.{send_next}
use Rattle.pb_sim.specs.declared.seen.Seen.{Seen}
use Rattle.pb_sim.specs.Seen.{is_too_much}
use Rattle.pb_sim.specs.Made.{IsTooMuch}

parts : (w : Option Waits) (b : Bool) → unless_waiting w b ≡ true → (w ≡ None) × (b ≡ true)
parts None b e = (refl, e)
parts (Some w) b e = absurd (clash e) where
  clash : false ≡ true → ⊥
  clash z = cc

pub may_step : (s : State) (r : ℕ) (next : Next) → IsState s → r < total_of s → can s r ≡ true → next ≡ next_at s r → MayStep s r next × (can_next s r (state_at s r) next ≡ true)
may_step s r next sound h c e =
    let p = parts (stand s r).waits (can_next s r (state_at s r) (next_at s r)) c in
    (record { sound = sound; there = h; free = p.0; next_is = sym e }, ap (can_next s r (state_at s r)) e ∙ p.1)

-- ---- too many words

pub too_much_is : (x : Seen) (r : ℕ) (next : Next) → next_at x.state r ≡ next → is_too_much x next ≡ true → IsTooMuch x r
too_much_is x r (N.Acts (A.Send to label)) e h = record { to = to; label = label; sends = send_next (next_step x.state r) to label e; much = much h } where
  much : nat_lt 16777216 (words_in x.state.channels + words_of (program x.state) x.state.n label) ≡ true → 16777216 < words_in x.state.channels + words_of (program x.state) x.state.n label
  much h = grind (arith, nat_tests)
too_much_is x r (N.Acts (A.Choose kernel branches)) e h = absurd (clash h) where
  clash : false ≡ true → ⊥
  clash z = cc
too_much_is x r (N.Acts (A.Run kernel)) e h = absurd (clash h) where
  clash : false ≡ true → ⊥
  clash z = cc
too_much_is x r (N.Acts (A.Recv from label)) e h = absurd (clash h) where
  clash : false ≡ true → ⊥
  clash z = cc
too_much_is x r (N.Acts (A.Enter what root op)) e h = absurd (clash h) where
  clash : false ≡ true → ⊥
  clash z = cc
too_much_is x r (N.Acts A.Leave) e h = absurd (clash h) where
  clash : false ≡ true → ⊥
  clash z = cc
too_much_is x r N.Silent e h = absurd (clash h) where
  clash : false ≡ true → ⊥
  clash z = cc
too_much_is x r (N.Waits from) e h = absurd (clash h) where
  clash : false ≡ true → ⊥
  clash z = cc
too_much_is x r N.Ended e h = absurd (clash h) where
  clash : false ≡ true → ⊥
  clash z = cc
too_much_is x r N.Lost e h = absurd (clash h) where
  clash : false ≡ true → ⊥
  clash z = cc
too_much_is x r N.Undefined e h = absurd (clash h) where
  clash : false ≡ true → ⊥
  clash z = cc

pub not_too_much : (x : Seen) (r : ℕ) (next : Next) → next_at x.state r ≡ next → is_too_much x next ≡ false → IsTooMuch x r → ⊥
not_too_much x r next e h much = clash (sym (true_of much.much) ∙ ap (is_too_much x) (sym (ap next_of much.sends) ∙ e) ∙ h) where
  true_of : 16777216 < words_in x.state.channels + words_of (program x.state) x.state.n much.label → nat_lt 16777216 (words_in x.state.channels + words_of (program x.state) x.state.n much.label) ≡ true
  true_of h = grind (arith, nat_tests)

  clash : true ≡ false → ⊥
  clash z = cc
