-- Whether a rank has a step, by its own state, the list of messages that it waits for, and the collective that is its next.
use Rattle.std.specs.Prelude.{ℕ, Bool, true, false, ◌||◌, ◌&&◌, not, nat_eq, nat_lt, Option, Some, None, slice_get}
use Rattle.pb_text.specs.declared.mode.Mode.{Mode}
use Rattle.pb_text.specs.declared.mode.Mode.TheVariants.{Eager, Waiting}
use Rattle.pb_world.specs.Counted.{Counted}
use Rattle.pb_local.specs.Machine as M
use Rattle.pb_local.specs.Family.{text_machine}
use Rattle.pb_chan.specs.Lists.{messages, label_of, position}
use Rattle.pb_sim_collectives.specs.declared.call.Call.{Call}
use Rattle.pb_sim_collectives.specs.declared.call.Call.TheVariants as C
use Rattle.pb_sim_collectives.specs.Calls.{collective_of, call_of}
use Rattle.pb_sim_collectives.specs.Joined.{Joined, number, agrees, has_entered, all_entered}
use Rattle.pb_machine.specs.declared.act.Act.{Act}
use Rattle.pb_machine.specs.declared.act.Act.TheVariants as A
use Rattle.pb_machine.specs.declared.act.Next.{Next}
use Rattle.pb_machine.specs.declared.act.Next.TheVariants as N
use Rattle.pb_machine.specs.Steps.{is_there, next_of}
use Rattle.pb_sim_world.specs.declared.stand.Waits.{Waits}
use Rattle.pb_sim_world.specs.declared.state.State.{State}
use Rattle.pb_sim_world.specs.States.{program, stand, state_at, next_at}

-- a rank in state x has a test for the label
abbrev pub reads : State → Counted M.Rank → Option ℕ → Bool
reads s x None = false
reads s x (Some label) = is_there ((text_machine (program s) s.n).read x label)

abbrev pub can_read : State → ℕ → Counted M.Rank → ℕ → Bool
can_read s r x from = reads s x (label_of (messages s.channels from r))

-- all have entered that the rank needs to leave its k-th collective, which is this one
abbrev pub has_needed : Joined → ℕ → ℕ → Call → Bool
has_needed x r k C.Barrier = all_entered x k
has_needed x r k (C.Broadcast label root) = has_entered x root k
has_needed x r k (C.Reduce label op root) = not (nat_eq r root) || all_entered x k
has_needed x r k (C.Allreduce label op) = all_entered x k

abbrev pub leaves_in : Joined → ℕ → ℕ → Call → Mode → Bool
leaves_in x r k call Waiting = all_entered x k
leaves_in x r k call Eager = has_needed x r k call

abbrev pub may_leave : Joined → ℕ → ℕ → Mode → Option Call → Bool
may_leave x r k mode None = false
may_leave x r k mode (Some call) = leaves_in x r k call mode

abbrev pub can_leave : State → ℕ → Bool
can_leave s r = may_leave s.joins r (stand s r).left (stand s r).mode (slice_get s.joins.calls (stand s r).left)

abbrev pub can_act : State → ℕ → Act → Bool
can_act s r (A.Choose kernel branches) = nat_lt 0 branches
can_act s r (A.Run kernel) = true
can_act s r (A.Send to label) = true
can_act s r (A.Recv from label) = is_there (position label 0 (messages s.channels from r))
can_act s r (A.Enter what root op) = agrees s.joins r (collective_of (call_of what root op))
can_act s r A.Leave = can_leave s r

abbrev pub can_next : State → ℕ → Counted M.Rank → Next → Bool
can_next s r x N.Silent = true
can_next s r x (N.Acts act) = can_act s r act
can_next s r x (N.Waits from) = can_read s r x from
can_next s r x N.Ended = false
can_next s r x N.Lost = false
can_next s r x N.Undefined = false

-- a rank whose last message has to be taken has no step
abbrev pub unless_waiting : Option Waits → Bool → Bool
unless_waiting None b = b
unless_waiting (Some w) b = false

-- in state x
abbrev pub can_in : State → ℕ → Counted M.Rank → Bool
can_in s r x = unless_waiting (stand s r).waits (can_next s r x (next_of ((text_machine (program s) s.n).next x)))

abbrev pub can : State → ℕ → Bool
can s r = can_in s r (state_at s r)

-- ---- which ranks can't go on in any way

-- its next number, peer or choice means nothing, its first label is in no test that holds, or its collective isn't the others'
abbrev pub undefined_by : State → ℕ → Next → Bool
undefined_by s r N.Undefined = true
undefined_by s r (N.Waits from) = is_there (label_of (messages s.channels from r)) && not (can_read s r (state_at s r) from)
undefined_by s r (N.Acts (A.Enter what root op)) = not (agrees s.joins r (collective_of (call_of what root op)))
undefined_by s r (N.Acts (A.Choose kernel branches)) = false
undefined_by s r (N.Acts (A.Run kernel)) = false
undefined_by s r (N.Acts (A.Send to label)) = false
undefined_by s r (N.Acts (A.Recv from label)) = false
undefined_by s r (N.Acts A.Leave) = false
undefined_by s r N.Silent = false
undefined_by s r N.Ended = false
undefined_by s r N.Lost = false

abbrev pub is_undefined : State → ℕ → Bool
is_undefined s r = undefined_by s r (next_at s r)

-- ---- which entries decide what others may do

abbrev pub is_root : ℕ → Call → Bool
is_root r C.Barrier = false
is_root r (C.Broadcast label root) = nat_eq r root
is_root r (C.Reduce label op root) = false
is_root r (C.Allreduce label op) = false

abbrev pub decides_in : ℕ → Call → Option Call → Bool
decides_in r call None = true
decides_in r call (Some other) = is_root r call

-- the first entry, and that of a broadcast's root
abbrev pub decides : Joined → ℕ → Call → Bool
decides x r call = decides_in r call (slice_get x.calls (number x r))
