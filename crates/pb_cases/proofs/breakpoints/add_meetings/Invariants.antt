use Rattle.std.proofs.Common.{◌≤◌, length}
use Rattle.pb_cases.specs.Building.{HasMeetings}
use Rattle.pb_cases.proofs.breakpoints.add_meetings.Given as goal

abbrev pub invariant-loop-c : goal.invariant-loop-c
invariant-loop-c l = record { so_far : HasMeetings l.range l.cuts l.initial.list.items l.list.items l.d l.c-index; few : length l.list.items ≤ 4096 }
