use Rattle.pb_cases.specs.Building.{HasAllMeetings}
use Rattle.pb_cases.proofs.breakpoints.breakpoints_of.Given as goal

abbrev pub invariant-loop-d : goal.invariant-loop-d
invariant-loop-d l = HasAllMeetings l.range l.cuts l.list.items l.d-index
