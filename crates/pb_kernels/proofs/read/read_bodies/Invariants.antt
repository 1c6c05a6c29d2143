use Rattle.std.proofs.Common.{◌≡◌, ◌<◌, ◌≤◌, ◌-◌, true, length, drop}
use Rattle.pb_kernels.specs.Files.{lines, read_from, bodies_in, is_open_body, is_open_new}
use Rattle.pb_kernels.proofs.read.read_bodies.Given as goal

abbrev pub invariant-loop-at : goal.invariant-loop-at
invariant-loop-at l = record {
  within : l.at ≤ length l.bytes;
  lines : read_from l.dialect l.number (lines (drop l.at l.bytes)) l.reading ≡ bodies_in l.dialect l.bytes;
  body : l.at < length l.bytes → is_open_body l.reading.current ≡ true;
  fresh : is_open_new l.reading.closed l.reading.current ≡ true;
}

abbrev pub decreases-loop-at : goal.decreases-loop-at
decreases-loop-at l = length l.bytes - l.at
