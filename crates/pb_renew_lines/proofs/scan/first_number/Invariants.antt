use Rattle.std.proofs.Common.{◌≡◌, ◌≤◌, ◌-◌, length, drop}
use Rattle.pb_kernels.specs.Files.{lines}
use Rattle.pb_renew_lines.specs.Lines.{first_number, number_in, rows_from}
use Rattle.pb_renew_lines.proofs.scan.first_number.Given as goal

abbrev pub invariant-loop-at : goal.invariant-loop-at
invariant-loop-at l = record {
  within : l.at ≤ length l.bytes;
  rest : number_in l.sought (rows_from l.number l.is_inside (lines (drop l.at l.bytes))) ≡ first_number l.sought l.bytes;
}

abbrev pub decreases-loop-at : goal.decreases-loop-at
decreases-loop-at l = length l.bytes - l.at
