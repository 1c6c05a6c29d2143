use Rattle.std.proofs.Common.{◌≡◌, ◌<◌, drop}
use Rattle.pb_text_read.specs.Fronts.{digits_below}
use Rattle.pb_text_read.proofs.numbers.digits.Given as goal

abbrev pub invariant-loop-at : goal.invariant-loop-at
invariant-loop-at l = record {
  same : digits_below l.limit l.n (drop l.at l.bytes) ≡ digits_below l.limit l.start l.bytes;
  small : l.n < l.limit;
}
