use Rattle.std.proofs.Common.{◌≡◌, None}
use Rattle.pb_chan.specs.Shown.{least}
use Rattle.pb_chan.proofs.queues.Queues.any.Given as goal

abbrev pub invariant-loop-pair : goal.invariant-loop-pair
invariant-loop-pair l = least l.least l.pair-iterator ≡ least None l.self.map.entries
