use Rattle.std.proofs.Common.{◌≡◌, ◌-◌, drop, length}
use Rattle.pb_chan.specs.Lists.{position}
use Rattle.pb_chan.proofs.queues.first_in.Given as goal

abbrev pub invariant-loop-at : goal.invariant-loop-at
invariant-loop-at l = position l.label l.at (drop l.at l.queue.items) ≡ position l.label 0 l.queue.items

abbrev pub decreases-loop-at : goal.decreases-loop-at
decreases-loop-at l = length l.queue.items - l.at
