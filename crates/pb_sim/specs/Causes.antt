-- Why a rank that hasn't ended has no step, by what it does next.
use Rattle.std.specs.Prelude.{◌≡◌, ◌≢◌, ℕ, ◌<◌, Bool, true, false, Option, Some, None}
use Rattle.pb_machine.specs.declared.act.Act.TheVariants as A
use Rattle.pb_machine.specs.declared.act.Next.{Next}
use Rattle.pb_machine.specs.declared.act.Next.TheVariants as N
use Rattle.pb_sim_world.specs.declared.stand.Waits.{Waits}
use Rattle.pb_sim_world.specs.declared.state.State.{State}
use Rattle.pb_sim_world.specs.States.{total_of, stand, next_at}
use Rattle.pb_sim_world.specs.Can.{is_undefined}
use Rattle.pb_sim.specs.declared.standing.Cause.{Cause}
use Rattle.pb_sim.specs.declared.standing.Cause.TheVariants as C

-- the least rank that hasn't ended
pub record IsLeast (s : State) (r : ℕ) : Type 0 where
  pub there : r < total_of s
  pub goes_on : next_at s r ≢ N.Ended
  pub before : (q : ℕ) → q < r → next_at s q ≡ N.Ended

-- where no message of its own has to be taken
abbrev pub cause_at : Next → Cause
cause_at (N.Acts (A.Recv from label)) = C.Receive from label
cause_at (N.Acts A.Leave) = C.Collective
cause_at (N.Waits from) = C.Probe from
cause_at N.Lost = C.Lost
cause_at N.Undefined = C.Undefined
cause_at N.Silent = C.Undefined
cause_at N.Ended = C.Undefined
cause_at (N.Acts (A.Choose kernel branches)) = C.Undefined
cause_at (N.Acts (A.Run kernel)) = C.Undefined
cause_at (N.Acts (A.Send to label)) = C.Undefined
cause_at (N.Acts (A.Enter what root op)) = C.Undefined

abbrev pub cause_by : Option Waits → Next → Cause
cause_by None next = cause_at next
cause_by (Some w) next = C.Taken w.by w.label

abbrev pub unless_undefined : Bool → Cause → Cause
unless_undefined true cause = C.Undefined
unless_undefined false cause = cause

abbrev pub cause_in : Bool → Option Waits → Next → Cause
cause_in undefined waits N.Lost = C.Lost
cause_in undefined waits N.Silent = unless_undefined undefined (cause_by waits N.Silent)
cause_in undefined waits N.Ended = unless_undefined undefined (cause_by waits N.Ended)
cause_in undefined waits N.Undefined = unless_undefined undefined (cause_by waits N.Undefined)
cause_in undefined waits (N.Waits from) = unless_undefined undefined (cause_by waits (N.Waits from))
cause_in undefined waits (N.Acts act) = unless_undefined undefined (cause_by waits (N.Acts act))

abbrev pub cause_of : State → ℕ → Cause
cause_of s r = cause_in (is_undefined s r) (stand s r).waits (next_at s r)
