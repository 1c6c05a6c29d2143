-- A schedule has no line at fault, and one reading.
use Rattle.std.proofs.Common.{◌≡◌, refl}
use Rattle.pb_cli_status.specs.declared.refusal.Refusal.TheVariants as refusal
use Rattle.pb_sched.specs.Outcomes.{schedule, bad_line, too_many}
use Rattle.pb_sched.proofs.Once.{once}
use Rattle.pb_cli_laws.specs.Laws.{ScheduleHasNoFault, OneSchedule}

pub schedule_has_no_fault : ScheduleHasNoFault
schedule_has_no_fault bytes seed turns is (refusal.Schedule line) why = let e : schedule seed turns ≡ bad_line line = once bytes _ _ is why in absurd cc
schedule_has_no_fault bytes seed turns is refusal.Events (line, why) = let e : schedule seed turns ≡ too_many line = once bytes _ _ is why in absurd cc
schedule_has_no_fault bytes seed turns is refusal.NoMemory why = refl
schedule_has_no_fault bytes seed turns is other why = absurd why

pub one_schedule : OneSchedule
one_schedule bytes seed other turns others a b = let e : schedule seed turns ≡ schedule other others = once bytes _ _ a b in (cc, cc)
