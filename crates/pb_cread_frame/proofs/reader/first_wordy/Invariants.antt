use Rattle.std.proofs.Common.{◌≡◌, drop}
use Rattle.pb_cread_frame.specs.Reading.{first_wordy}
use Rattle.pb_cread_frame.proofs.reader.first_wordy.Given as goal

abbrev pub invariant-loop-at : goal.invariant-loop-at
invariant-loop-at l = first_wordy (drop l.at l.labels) ≡ first_wordy (drop l.from l.labels)
