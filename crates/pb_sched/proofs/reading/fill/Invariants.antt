use Rattle.std.proofs.Common.{◌-◌, length}
use Rattle.pb_sched.specs.Parts.{HasFront}
use Rattle.pb_sched.proofs.reading.fill.Given as goal

abbrev pub invariant-loop-format : goal.invariant-loop-format
invariant-loop-format l = HasFront l.format l.text l.turns.items l.rest

abbrev pub decreases-loop-format : goal.decreases-loop-format
decreases-loop-format l = 1000000 - length l.turns.items
